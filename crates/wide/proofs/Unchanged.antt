-- A call that gives a number leaves its places as they were: the answer behind the number is a refusal.
use Prim.Native.Nat.{ℕ}
use mathlib.Core.Path.{◌≡◌}
use mathlib.Core.List.{List}
use Rattle.parcel.specs.Parcel.{Read, Written, read_of, memory_in, edges_in, after_read, after_write}
use Rattle.std.specs.Prelude.{Ok, Err}
use Rattle.capi.specs.Parcels.{read_number, read_call, counts_after, written_parcel_number, count_after, put_short}
use Rattle.wide.specs.Theorems.{RefusedWideCallsChangeNothing}

not_put : (a : Written) (bytes parcel count : List ℕ) {r : ℕ} {parcel' count' : List ℕ} → r ≡ written_parcel_number a → parcel' ≡ after_write a bytes parcel
    → count' ≡ count_after a count → (r ≡ 0 → ⊥) → (parcel' ≡ parcel) × (count' ≡ count)
not_put (Ok size) bytes parcel count e f g some = absurd (some e)
not_put (Err f₀) bytes parcel count e f g some = (f, g)

not_read : (a : Read) (m g new-m new-g counts : List ℕ) {r : ℕ} {m' g' counts' : List ℕ} → r ≡ read_number a → m' ≡ after_read a new-m m → g' ≡ after_read a new-g g
    → counts' ≡ counts_after a counts → (r ≡ 0 → ⊥) → (m' ≡ m) × (g' ≡ g) × (counts' ≡ counts)
not_read (Ok found) m g new-m new-g counts e f h k some = absurd (some e)
not_read (Err f₀) m g new-m new-g counts e f h k some = (f, h, k)

pub refused_wide_calls_change_nothing : RefusedWideCallsChangeNothing
refused_wide_calls_change_nothing =
    record {
      put = λ call bytes parcel count place r parcel' count' place' c some.
          not_put (call (put_short bytes parcel count place)) bytes parcel count c.answer c.bytes_after c.count_after some;
      read = λ w parcel memory edges counts r memory' edges' counts' c some.
          not_read (read_call w parcel memory edges counts) memory edges (memory_in (read_of w parcel)) (edges_in (read_of w parcel)) counts c.answer
          c.memory_after c.edges_after c.counts_after some;
    }
