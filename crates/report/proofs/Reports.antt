-- The report from what its callees answer: by the verdict, and by what reading into places of 4,096 left.
use Prim.Native.Nat.{ℕ, ◌+◌, ◌*◌}
use mathlib.Core.Path.{◌≡◌, sym, ap, ◌∙◌}
use mathlib.Core.List.{List}
use lib.ListN.{length, take, drop}
use Rattle.lists.proofs.Bools.{clash}
use Rattle.std.specs.Prelude.{Ok, Err}
use Rattle.answers.specs.declared.Fault.{Fault}
use Rattle.answers.specs.Faults.{Verdict}
use Rattle.isa.specs.declared.Technique.{Technique}
use Rattle.checker.specs.Verdicts.{verdict_of}
use Rattle.parcel.specs.declared.reader.Counts.{Counts}
use Rattle.parcel.specs.Parcel.{Content, holds, refused, Read, read_of, counts_of, room_for, ReadSo}
use Rattle.parcel.proofs.Runs.{length_numbers}
use Rattle.parcel.proofs.Places.{read_refused, is_whole, memory_front, edges_front}
use Rattle.report.specs.declared.Figures.{Figures}
use Rattle.report.specs.Figures.{figures_of}
use Rattle.report.specs.Reports.{report_by, report_of, content_report}

module _ (t : Technique) (memory : List ℕ) (n : ℕ) (edges : List ℕ) {v : Verdict} (so : v ≡ verdict_of t memory n edges) where
  by_verdict : (w : Verdict) → v ≡ w → report_by w (figures_of memory n edges) ≡ report_of t memory n edges
  unfolding report_of
  by_verdict w e = ap (λ (x : Verdict). report_by x (figures_of memory n edges)) (sym e ∙ so)

  pub accepted_report : {x : Unit} {figures : Figures} → v ≡ Ok x → figures ≡ figures_of memory n edges → Ok figures ≡ report_of t memory n edges
  accepted_report {x} e f = ap (λ (y : Figures). report_by (Ok x) y) f ∙ by_verdict (Ok x) e

  pub refused_report : {f : Fault} → v ≡ Err f → Err f ≡ report_of t memory n edges
  refused_report {f} e = by_verdict (Err f) e

refused_content : (t : Technique) (s : List ℕ) {f : Fault} → room_for 4096 4096 (read_of 2 s) ≡ Err f → Err f ≡ content_report t (read_of 2 s)
unfolding content_report
refused_content t s {f} h = go (read_of 2 s) (read_refused s {why = f.refusal} {place = f.place} h)
  where
    go : (x : Content) → Err f ≡ counts_of x → Err f ≡ content_report t x
    go (refused w) e = cc
    go (holds code edges words) e = clash (cc)

-- what was read into places of 4,096, or why nothing was
module _ {s m g : List ℕ} {found : Read} {m₁ g₁ : List ℕ} (so : ReadSo 2 s m g found m₁ g₁) (hm : length m ≡ 4096)
    (hg : length g ≡ 4096) where
  pub read_report : (t : Technique) {k : Counts} → found ≡ Ok k
      → report_of t (take (k.code + k.data) m₁) k.code (take (k.edges * 2) g₁) ≡ content_report t (read_of 2 s)
  unfolding content_report
  read_report t {k} h =
      rw (memory_front s m g found m₁ g₁ so hm hg h, edges_front s m g found m₁ g₁ so hm hg h, (is_whole s m g found m₁ g₁ so hm hg h).is, length_numbers 8 k.code (drop 4 s))

  pub refused_parcel : (t : Technique) {f : Fault} → found ≡ Err f → Err f ≡ content_report t (read_of 2 s)
  refused_parcel t h = refused_content t s (sym (rw (hm, hg) at so.answers) ∙ h)
