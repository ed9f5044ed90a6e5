-- The line's answer, from what reading into places of 4,096 left.
use Prim.Native.Nat.{ℕ, ◌+◌, ◌*◌, ◌/◌}
use mathlib.Core.Path.{◌≡◌, sym, ap, ◌∙◌}
use mathlib.Core.List.{List}
use native.Mathlib.Omega.{arith}
use lib.ListN.{length, take, drop}
use Rattle.std.specs.Prelude.{Ok, Err}
use Rattle.lists.proofs.Bools.{clash}
use Rattle.answers.specs.declared.Fault.{Fault}
use Rattle.answers.specs.Faults.{Verdict}
use Rattle.isa.specs.declared.Technique.{Technique}
use Rattle.checker.specs.Verdicts.{verdict_of}
use Rattle.parcel.specs.declared.reader.Counts.{Counts}
use Rattle.parcel.specs.Parcel.{Read, Content, holds, refused, read_of, counts_of, room_for, ReadSo}
use Rattle.parcel.proofs.Runs.{length_numbers}
use Rattle.parcel.proofs.Places.{read_refused, is_whole, memory_front, edges_front}
use Rattle.line.specs.Line.{judged, answer_of}

pub judge_refused : (s : List ℕ) {f : Fault} → room_for 4096 4096 (read_of 2 s) ≡ Err f → Err f ≡ answer_of (read_of 2 s)
unfolding answer_of
judge_refused s {f} h = go (read_of 2 s) (read_refused s h)
  where
    go : (x : Content) → Err f ≡ counts_of x → Err f ≡ answer_of x
    go (refused w) e = cc
    go (holds code edges words) e = clash (cc)

-- what a call of `read_parcel` on places of 4,096 left
module _ (s m g : List ℕ) (found : Read) (m₁ g₁ : List ℕ) (so : ReadSo 2 s m g found m₁ g₁) (hm : length m ≡ 4096)
    (hg : length g ≡ 4096) {c : Counts} (h : found ≡ Ok c) where
  pub judge_read : {w v : Verdict} → w ≡ verdict_of Technique.Plain (take (c.code + c.«data») m₁) c.code (take (c.edges * 2) g₁) → w ≡ v
      → judged v c ≡ answer_of (read_of 2 s)
  unfolding answer_of
  judge_read e f =
      let half : c.edges * 2 / 2 ≡ c.edges = omega arith in
      ap (λ (v : Verdict). judged v c) (sym f ∙ e)
      ∙ rw (memory_front s m g found m₁ g₁ so hm hg h, edges_front s m g found m₁ g₁ so hm hg h, (is_whole s m g found m₁ g₁ so hm hg h).is, length_numbers 8 c.code (drop 4 s), length_numbers 2 (c.edges * 2) (drop (8 + c.code * 8) s), length_numbers 8 c.«data» (drop (12 + c.code * 8 + c.edges * 4) s), half)
