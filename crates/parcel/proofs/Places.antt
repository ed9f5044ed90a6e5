-- What reading into places of 4,096 leaves to be checked, and that no parcel needs more.
use Prim.Native.Nat.{ℕ, ◌+◌, ◌*◌, ◌/◌, ◌≤◌}
use mathlib.Core.Path.{◌≡◌, refl, ap, sym, ◌∙◌}
use mathlib.Core.List.{List, ◌++◌}
use native.Mathlib.Omega.{arith}
use lib.ListN.{length, take, drop, length-append}
use lib.Seq.{take_at}
use borrow.Author.Tests.{le-ltb}
use Rattle.lists.proofs.Bools.{clash}
use Rattle.answers.specs.declared.Refusal.{Refusal}
use Rattle.answers.specs.declared.Place.{Place}
use Rattle.answers.specs.Faults.{fault}
use Rattle.std.specs.Prelude.{Ok, Err}
use Rattle.parcel.specs.Bytes.{numbers_of}
use Rattle.parcel.specs.Parcel.{Read, counts, Content, holds, refused, read_of, counts_of, room_for, edges_in, ReadSo}
use Rattle.parcel.proofs.Runs.{length_numbers}
use Rattle.parcel.proofs.ReaderAnswers.{Whole, whole, counts_read}

-- what a parcel holds fits into places of 4,096
holds_fits : (s code edges words : List ℕ) → read_of 2 s ≡ holds code edges words
    → (length code + length words ≤ 4096) × (length edges ≤ 4096)
holds_fits s code edges words h = go (whole 2 s (ap counts_of h))
  where
    go : Whole 2 s (length code) (length edges / 2) (length words) → (length code + length words ≤ 4096) × (length edges ≤ 4096)
    go w =
        let same : edges ≡ numbers_of 2 (length edges / 2 * 2) _ = ap edges_in (sym h ∙ w.is) in
        let even : length edges ≡ length edges / 2 * 2 = ap length same ∙ length_numbers 2 (length edges / 2 * 2) _ in
        (omega (arith, w.code_limit, w.data_limit), omega (arith, w.edge_limit, even))

-- a refusal there is the reader's own, never for a place that is too short
pub read_refused : (s : List ℕ) {why : Refusal} {place : Place} → room_for 4096 4096 (read_of 2 s) ≡ Err (fault why place)
    → Err (fault why place) ≡ counts_of (read_of 2 s)
read_refused s {why} {place} = go (read_of 2 s) refl
  where
    go : (x : Content) → read_of 2 s ≡ x → room_for 4096 4096 x ≡ Err (fault why place) → Err (fault why place) ≡ counts_of x
    go (refused w) e h = sym h
    go (holds code edges words) e h =
        let f = holds_fits s code edges words e in
        clash (let k = rw (le-ltb 4096 (length code + length words) f.0, le-ltb 4096 (length edges) f.1) at h in cc)

-- what a call of `read_parcel` on places of 4,096 left
module _ (s m g : List ℕ) (found : Read) (m₁ g₁ : List ℕ) (so : ReadSo 2 s m g found m₁ g₁) (hm : length m ≡ 4096)
    (hg : length g ≡ 4096) {c e d : ℕ} (h : found ≡ Ok (counts c e d)) where
  pub is_whole : Whole 2 s c e d
  is_whole = whole 2 s (counts_read (read_of 2 s) 4096 4096 (sym h ∙ rw (hm, hg) at so.answers))

  abbrev pub code : List ℕ
  code = numbers_of 8 c (drop 4 s)

  abbrev pub edges : List ℕ
  edges = numbers_of 2 (e * 2) (drop (8 + c * 8) s)

  abbrev pub words : List ℕ
  words = numbers_of 8 d (drop (12 + c * 8 + e * 4) s)

  length_memory : length (code ++ words) ≡ c + d
  length_memory = length-append code words ∙ rw (length_numbers, length_numbers)

  memory_is : m₁ ≡ (code ++ words) ++ drop (length (code ++ words)) m
  memory_is = so.memory ∙ rw (h, is_whole.is)

  edges_are : g₁ ≡ edges ++ drop (length edges) g
  edges_are = so.edges ∙ rw (h, is_whole.is)

  pub memory_front : take (c + d) m₁ ≡ code ++ words
  memory_front = rw memory_is (take_at (code ++ words) _ (c + d) length_memory)

  pub edges_front : take (e * 2) g₁ ≡ edges
  edges_front = rw edges_are (take_at edges _ (e * 2) (length_numbers 2 (e * 2) _))
