-- The reader and the writer, whose answer to a place without a word or a byte is that to any place that is too short.
use Prim.Native.Nat.{ℕ, ◌+◌, ◌<◌}
use mathlib.Core.Path.{◌≡◌, refl, sym, ap, ◌∙◌}
use mathlib.Core.Bool.{Bool, true, false, cond}
use mathlib.Core.List.{List, [], ◌++◌}
use native.Mathlib.Omega.{arith}
use lib.Dec.{ltb}
use lib.ListN.{length, take, drop}
use borrow.Author.Tests.{lt-ltb}
use Rattle.std.specs.Prelude.{Ok, Err}
use Rattle.lists.specs.Places.{shorter}
use Rattle.answers.specs.declared.Refusal.{Refusal}
use Rattle.answers.specs.declared.Place.{Place}
use Rattle.answers.specs.Faults.{fault}
use Rattle.answers.specs.Shape.{call_shaped}
use Rattle.graph.specs.Claim.{edge_count}
use Rattle.rising.specs.Rising.{first_not_rising}
use Rattle.parcel.specs.Parcel.{Read, Content, holds, refused, read_of, counts_of, room_for, memory_in, after_read, ReadSo, parcel_of}
use Rattle.parcel.proofs.ReaderAnswers.{whole}
use Rattle.parcel.proofs.Sections.{length_parcel}
use Rattle.capi.specs.Parcels.{no_place, counts_after, ReadPut, ReadCall, bytes_in, write_call}
use Rattle.capi.proofs.Rooms.{Careful, none_or_all}

-- no parcel is without bytes
pub some_bytes : (w : ℕ) (code edges words : List ℕ) → shorter [] (length (parcel_of w code edges words)) ≡ true
some_bytes w code edges words = lt-ltb 0 (length (parcel_of w code edges words)) (omega (arith, length_parcel w code edges words))

pub careful_writer : (w : ℕ) (m : List ℕ) (n : ℕ) (g : List ℕ) → Careful (write_call w m n g) (shorter [] (length (bytes_in w m n g)))
careful_writer w m n g = go (call_shaped (length m) n (length g)) refl (ltb (first_not_rising g) (edge_count g)) refl
  where
    nowhere : write_call w m n g (shorter [] (length (bytes_in w m n g))) ≡ write_call w m n g true
    nowhere = ap (write_call w m n g) (some_bytes w (take n m) g (drop n m))

    go : (shaped : Bool) → call_shaped (length m) n (length g) ≡ shaped → (falls : Bool) → ltb (first_not_rising g) (edge_count g) ≡ falls → Careful (write_call w m n g) (shorter [] (length (bytes_in w m n g)))
    go true e true f = record { why = fault Refusal.EdgeNotRising (Place.Edge (first_not_rising g)); refuses = rw (e, f); as_short = nowhere }
    go true e false f = record { why = fault Refusal.PlaceTooShort Place.Nowhere; refuses = rw (e, f); as_short = nowhere }
    go false e falls f = record { why = fault Refusal.Shape Place.Nowhere; refuses = rw e; as_short = nowhere }

-- ---- the reader

-- no parcel is without code
no_memory : (w : ℕ) (s : List ℕ) (g : ℕ) → room_for 0 g (read_of w s) ≡ no_place (counts_of (read_of w s))
no_memory w s g = go (read_of w s) refl
  where
    go : (x : Content) → read_of w s ≡ x → room_for 0 g x ≡ no_place (counts_of x)
    go (holds code edges words) e =
        let some : 0 < length code + length words = omega (arith, (whole w s (ap counts_of e)).some_code) in
        rw (lt-ltb 0 (length code + length words) some)
    go (refused why) e = refl

-- nothing is put anywhere then
kept : (a : Read) (new old : List ℕ) → after_read (no_place a) new old ≡ old
kept (Ok found) new old = refl
kept (Err f) new old = refl

kept_counts : (a : Read) (counts : List ℕ) → counts ≡ counts_after (no_place a) counts
kept_counts (Ok found) counts = refl
kept_counts (Err f) counts = refl

module _ (w : ℕ) (s m g k : List ℕ) where
  none_read : {a : Read} {r : ℕ} {part g' k' : List ℕ} → shorter k 3 ≡ true → ReadSo w s [] g a part g' → ReadPut a k r k'
      → ReadCall w s m g k r (part ++ m) g' k'
  none_read {a} {part = part} short so put =
      let c = counts_of (read_of w s) in
      let same : a ≡ no_place c = so.answers ∙ no_memory w s (length g) in
      let none : part ≡ [] = so.memory ∙ rw same (kept c (memory_in (read_of w s)) []) in
      record {
        answer = put.answer ∙ rw (short, same);
        memory_after = rw (short, none) (sym (kept c (memory_in (read_of w s)) m));
        edges_after = so.edges ∙ rw (short, same);
        counts_after = (rw short at put.counts_after) ∙ rw short (kept_counts c k);
      }

  all_read : {a : Read} {r : ℕ} {m' g' k' : List ℕ} → shorter k 3 ≡ false → ReadSo w s m g a m' g' → ReadPut a k r k' → ReadCall w s m g k r m' g' k'
  all_read room so put =
      record {
        answer = put.answer ∙ rw (room, so.answers);
        memory_after = so.memory ∙ rw (room, so.answers);
        edges_after = so.edges ∙ rw (room, so.answers);
        counts_after = put.counts_after ∙ rw (room, so.answers);
      }

  pub read_done : {room : ℕ} {a : Read} {r : ℕ} {part g' k' : List ℕ} → room ≡ cond (shorter k 3) 0 (length m) → ReadSo w s (take room m) g a part g'
      → ReadPut a k r k' → ReadCall w s m g k r (part ++ drop room m) g' k'
  read_done {a = a} {r = r} {g' = g'} {k' = k'} e so put =
      none_or_all (λ (x y : List ℕ). ReadSo w s x g a y g') (λ (x : List ℕ). ReadCall w s m g k r x g' k') (shorter k 3) e so
      (λ short known. none_read short known put) (λ room known. all_read room known put)
