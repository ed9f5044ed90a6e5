-- The calls on parcels (document 01, "Parcel"; document 02, K3). An edge number has w bytes: 2 in the calls of this crate, 4 in those of `wide` (K6).
use Rattle.std.specs.Prelude.{ℕ, ◌≡◌, Bool, cond, ◌||◌, List, [], ◌∷◌, length, take, drop, Ok, Err}
use Rattle.answers.specs.declared.Refusal.{Refusal}
use Rattle.answers.specs.declared.Place.{Place}
use Rattle.answers.specs.Faults.{fault}
use Rattle.answers.specs.Shape.{call_shaped}
use Rattle.lists.specs.Places.{shorter, put_over}
use Rattle.parcel.specs.Parcel.{Read, Written, read_of, counts_of, room_for, memory_in, edges_in, after_read, parcel_of, written_of, after_write}
use Rattle.capi.specs.Checks.{answer_number, answer_place, place_after}

-- 0 where the parcel is read
abbrev pub read_number : Read → ℕ
read_number read = answer_number read

-- 1 to 4, and then 5
abbrev pub no_place : Read → Read
no_place (Ok found) = Err (fault Refusal.PlaceTooShort Place.Nowhere)
no_place (Err f) = Err f

-- the reading, where the place for the three counts is a lent place like the others
abbrev pub read_call : ℕ → List ℕ → List ℕ → List ℕ → List ℕ → Read
read_call w parcel memory edges counts =
    cond (shorter counts 3) (no_place (counts_of (read_of w parcel))) (room_for (length memory) (length edges) (read_of w parcel))

-- code words, edges, data words
abbrev pub counts_after : Read → List ℕ → List ℕ
counts_after (Ok found) counts = put_over (found.code ∷ found.edges ∷ found.«data» ∷ []) counts
counts_after (Err f) counts = counts

-- the contract of `put_read`: the number r of a reading, and its counts put where there is room for them
pub record ReadPut (read : Read) (counts : List ℕ) (r : ℕ) (counts' : List ℕ) : Type 0 where
  pub answer : r ≡ read_number read
  pub counts_after : counts' ≡ cond (shorter counts 3) counts (counts_after read counts)

-- the contract of `pg_read_parcel`, and of `pg_read_wide_parcel` with w = 4: its answer r, and the three places that it leaves
pub record ReadCall (w : ℕ) (parcel memory edges counts : List ℕ) (r : ℕ) (memory' edges' counts' : List ℕ) : Type 0 where
  pub answer : r ≡ read_number (read_call w parcel memory edges counts)
  pub memory_after : memory' ≡ after_read (read_call w parcel memory edges counts) (memory_in (read_of w parcel)) memory
  pub edges_after : edges' ≡ after_read (read_call w parcel memory edges counts) (edges_in (read_of w parcel)) edges
  pub counts_after : counts' ≡ counts_after (read_call w parcel memory edges counts) counts

-- 0 where the parcel is written
abbrev pub written_parcel_number : Written → ℕ
written_parcel_number written = answer_number written

abbrev pub written_place : Written → Place
written_place written = answer_place written

abbrev pub bytes_in : ℕ → List ℕ → ℕ → List ℕ → List ℕ
bytes_in w memory n edges = parcel_of w (take n memory) edges (drop n memory)

-- the writing: 6, 18, and then 5, where some place that is lent is too short
abbrev pub write_call : ℕ → List ℕ → ℕ → List ℕ → Bool → Written
write_call w memory n edges short = written_of (call_shaped (length memory) n (length edges)) edges short (bytes_in w memory n edges)

-- 5: the place for the count is a lent place as the parcel's is
abbrev pub write_short : List ℕ → ℕ → List ℕ → List ℕ → List ℕ → Bool
write_short memory n edges parcel count = shorter count 1 || shorter parcel (length (bytes_in 2 memory n edges))

abbrev pub count_after : Written → List ℕ → List ℕ
count_after (Ok size) count = put_over (size ∷ []) count
count_after (Err f) count = count

-- the contract of `put_written`: the number r of a writing, and its size and its place put where there is room for them
pub record WrittenPut (written : Written) (count place : List ℕ) (r : ℕ) (count' place' : List ℕ) : Type 0 where
  pub answer : r ≡ written_parcel_number written
  pub count_after : count' ≡ cond (shorter count 1) count (count_after written count)
  pub place_after : place' ≡ place_after (written_place written) place

-- what a writing that answers `written` leaves in the parcel's place and in the count's
pub record WriteLeaves (written : Written) (memory : List ℕ) (n : ℕ) (edges parcel count parcel' count' : List ℕ) : Type 0 where
  pub parcel_after : parcel' ≡ after_write written (bytes_in 2 memory n edges) parcel
  pub count_after : count' ≡ count_after written count

-- the contract of `pg_write_parcel`: its answer r, and the two places that it leaves
pub record WriteCall (memory : List ℕ) (n : ℕ) (edges parcel count : List ℕ) (r : ℕ) (parcel' count' : List ℕ) : Type 0 where
  pub answer : r ≡ written_parcel_number (write_call 2 memory n edges (write_short memory n edges parcel count))
  pub leaves : WriteLeaves (write_call 2 memory n edges (write_short memory n edges parcel count)) memory n edges parcel count parcel' count'

-- 5: the places for the size and for the place of a refusal are lent places as that for the bytes is
abbrev pub put_short : List ℕ → List ℕ → List ℕ → List ℕ → Bool
put_short bytes parcel count place = (shorter place 2 || shorter count 1) || shorter parcel (length bytes)

-- the contract of a call that puts these bytes, where `call` is what it answers if a lent place is too short and if none is: its number
-- r, and the three places that it leaves. The place of a refusal is put where there is room for it.
pub record PutCall (call : Bool → Written) (bytes parcel count place : List ℕ) (r : ℕ) (parcel' count' place' : List ℕ) : Type 0 where
  pub answer : r ≡ written_parcel_number (call (put_short bytes parcel count place))
  pub bytes_after : parcel' ≡ after_write (call (put_short bytes parcel count place)) bytes parcel
  pub count_after : count' ≡ count_after (call (put_short bytes parcel count place)) count
  pub place_after : place' ≡ place_after (written_place (call (put_short bytes parcel count place))) place

-- the contract of `pg_write_parcel_placed`, and of `pg_write_wide_parcel` with w = 4
abbrev pub WritePlacedCall : ℕ → List ℕ → ℕ → List ℕ → List ℕ → List ℕ → List ℕ → ℕ → List ℕ → List ℕ → List ℕ → Type 0
WritePlacedCall w memory n edges parcel count place r parcel' count' place' =
    PutCall (write_call w memory n edges) (bytes_in w memory n edges) parcel count place r parcel' count' place'
