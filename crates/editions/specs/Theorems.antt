-- What is proved of the two editions (document 02, K6). `proofs/Theorems.antt` has the proofs.
use Rattle.std.specs.Prelude.{ℕ, ◌≤◌, ◌≡◌, ◌⊎◌, List, ◌++◌, length, take}
use Rattle.answers.specs.declared.Refusal.{Refusal}
use Rattle.answers.specs.declared.Place.{Place}
use Rattle.answers.specs.Faults.{fault, Verdict}
use Rattle.std.specs.Prelude.{Ok, Err}
use Rattle.isa.specs.declared.Technique.{Technique}
use Rattle.checker.specs.Verdicts.{verdict_of}
use Rattle.parcel.specs.Parcel.{Written, Content, holds, refused, read_of}
use Rattle.parcel.specs.Theorems.{AllBelow, WrittenBack}
use Rattle.editions.specs.Converters.{WidenedSo, NarrowedSo}

-- the bytes s were put as the k bytes at the front of p'
pub record Widened (s : List ℕ) (k : ℕ) (p p' : List ℕ) : Type 0 where
  pub are_bytes : AllBelow 256 s
  pub so : WidenedSo s p (Ok k) p'

pub record Narrowed (s : List ℕ) (k : ℕ) (p p' : List ℕ) : Type 0 where
  pub are_bytes : AllBelow 256 s
  pub so : NarrowedSo s p (Ok k) p'

-- the verdict on what bytes hold; where they are refused, the reader's refusal
abbrev pub parcel_verdict : Technique → Content → Verdict
parcel_verdict t (holds code edges words) = verdict_of t (code ++ words) (length code) edges
parcel_verdict t (refused why) = Err (fault why Place.Nowhere)

-- 7 or 8
abbrev pub OutsideCode : Verdict → Type 0
OutsideCode verdict =
    ((k : ℕ) × (verdict ≡ Err (fault Refusal.EdgeFromNoJump (Place.Edge k))))
    ⊎ ((k : ℕ) × (verdict ≡ Err (fault Refusal.TargetOutsideCode (Place.Edge k))))

pub record TwoEditions : Type 0 where
  -- "Widening loses nothing": reading the widened bytes gives the same code, edges and data; and so does reading the narrowed ones
  pub widening_loses_nothing : (s : List ℕ) (k : ℕ) (p p' : List ℕ) → Widened s k p p' → read_of 4 (take k p') ≡ read_of 2 s
  pub narrowing_loses_nothing : (s : List ℕ) (k : ℕ) (p p' : List ℕ) → Narrowed s k p p' → read_of 2 (take k p') ≡ read_of 4 s
  -- "narrowing what was widened gives the first bytes", in a place q that is long enough; and widening what was narrowed
  pub narrowed_back : (s : List ℕ) (k : ℕ) (p p' q q' : List ℕ) (answer : Written) → Widened s k p p' → NarrowedSo (take k p') q answer q'
      → length s ≤ length q → WrittenBack s q answer q'
  pub widened_back : (s : List ℕ) (k : ℕ) (p p' q q' : List ℕ) (answer : Written) → Narrowed s k p p' → WidenedSo (take k p') q answer q'
      → length s ≤ length q → WrittenBack s q answer q'
  -- "Where it converts, a parcel gets the same verdict in both editions"
  pub same_verdict_widened : (t : Technique) (s : List ℕ) (k : ℕ) (p p' : List ℕ) → Widened s k p p'
      → parcel_verdict t (read_of 4 (take k p')) ≡ parcel_verdict t (read_of 2 s)
  pub same_verdict_narrowed : (t : Technique) (s : List ℕ) (k : ℕ) (p p' : List ℕ) → Narrowed s k p p'
      → parcel_verdict t (read_of 2 (take k p')) ≡ parcel_verdict t (read_of 4 s)
  -- "what 19 turns away, the checkers refuse with 7 or 8"
  pub too_wide_refused : (t : Technique) (s p p' : List ℕ) (k : ℕ)
      → NarrowedSo s p (Err (fault Refusal.EdgeTooWide (Place.Edge k))) p'
      → OutsideCode (parcel_verdict t (read_of 4 s))
