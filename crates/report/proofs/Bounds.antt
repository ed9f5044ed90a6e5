-- A freedom's numbers are small: at most 2,048 edges, and at most n jumps.
use Prim.Native.Nat.{ℕ, ◌*◌, ◌≤◌}
use mathlib.Core.Path.{◌≡◌, refl, ap}
use mathlib.Core.Bool.{Bool, true, false, cond}
use mathlib.Core.List.{List, ◌++◌}
use native.Mathlib.Omega.{arith}
use native.Mathlib.Nat.{mul-le-mul, mul-le-mul_right}
use lib.ListN.{length}
use lib.Dec.{eqb}
use borrow.Author.Tests.{eqb-false}
use Rattle.lists.proofs.Bools.{clash}
use Rattle.std.specs.Prelude.{None, Some, Ok, Err}
use Rattle.answers.specs.Faults.{Verdict}
use Rattle.isa.specs.declared.Kind.{Kind}
use Rattle.isa.specs.declared.Technique.{Technique}
use Rattle.checker.specs.Verdicts.{verdict_of}
use Rattle.parcel.specs.Parcel.{Content, holds, refused, read_of}
use Rattle.report.specs.Figures.{words_of_kind, distinct_edges, freedom, freedom_by, numerator_of, denominator_of, figures_of}
use Rattle.report.specs.Reports.{report_by, report_of, content_report}
use Rattle.report.specs.Theorems.{FreedomFits, Fits, FreedomsFit}
use Rattle.report.proofs.Held.{held}
use Rattle.report.proofs.ByKind.{kind_max}
use Rattle.report.specs.Inside.{Held}
use Rattle.report.proofs.AsListed.{distinct_listed}

module _ (memory : List ℕ) (n : ℕ) (edges : List ℕ) (all : Held memory n edges) where
  small : (c d : ℕ) → freedom_by (words_of_kind memory n Kind.Jmp) n (distinct_edges n edges) ≡ Some (freedom c d) → FreedomFits c d
  small = go (eqb (words_of_kind memory n Kind.Jmp) 0) refl
    where
      go : (b : Bool) → eqb (words_of_kind memory n Kind.Jmp) 0 ≡ b → (c d : ℕ)
          → cond b None (Some (freedom (distinct_edges n edges) (words_of_kind memory n Kind.Jmp * n))) ≡ Some (freedom c d)
          → FreedomFits c d
      go true e c d h = clash (cc)
      go false e c d h =
          let ne = eqb-false (words_of_kind memory n Kind.Jmp) 0 e in
          let ec : distinct_edges n edges ≡ c = ap numerator_of h in
          let ed : words_of_kind memory n Kind.Jmp * n ≡ d = ap denominator_of h in
          let few = distinct_listed edges n all.within all.rises in
          let limit = all.within.few in
          let s = all.sized in
          let square : n * n ≤ 2048 * 2048 = mul-le-mul s.code_limit s.code_limit in
          let most : words_of_kind memory n Kind.Jmp * n ≤ n * n = mul-le-mul_right n (kind_max memory n Kind.Jmp) in
          let one : 1 ≤ words_of_kind memory n Kind.Jmp = omega arith in
          let some : 1 * 1 ≤ words_of_kind memory n Kind.Jmp * n = mul-le-mul one s.some_code in
          record { edges_fit = omega arith; possible_fit = omega arith; some_possible = omega arith }

program_fits : (t : Technique) (memory : List ℕ) (n : ℕ) (edges : List ℕ) → Fits (report_of t memory n edges)
unfolding report_of figures_of
program_fits t memory n edges = go (verdict_of t memory n edges) refl
  where
    go : (v : Verdict) → verdict_of t memory n edges ≡ v → Fits (report_by v (figures_of memory n edges))
    go (Ok x) e c d h = small memory n edges (held t memory n edges e) c d h
    go (Err f) e c d h = clash (cc)

content_fits : (t : Technique) (x : Content) → Fits (content_report t x)
unfolding content_report
content_fits t (holds code edges words) c d h = program_fits t (code ++ words) (length code) edges c d h
content_fits t (refused why) c d h = clash (cc)

pub freedoms_fit : FreedomsFit
freedoms_fit = record { of_program = program_fits; of_parcel = λ t bytes. content_fits t (read_of 2 bytes) }
