-- Calls for the owner that are refused change nothing, by their contracts.
use Prim.Native.Nat.{ℕ}
use mathlib.Core.Path.{◌≡◌, refl, ap, ◌∙◌}
use mathlib.Core.Bool.{Bool, true, false, ◌||◌}
use mathlib.Core.List.{List}
use Rattle.lists.specs.Places.{shorter}
use Rattle.std.specs.Prelude.{Ok, Err}
use Rattle.report.specs.Reports.{Report}
use Rattle.totals.specs.declared.Added.{Added}
use Rattle.totals.specs.Totals.{add_report}
use Rattle.capi.specs.Checks.{answer_number}
use Rattle.owner.specs.Reports.{figures_after, totals_in, totals_after, added_to, ReportCall, AddCall}
use Rattle.owner.specs.Theorems.{RefusedReportsChangeNothing}

report_unchanged :
    (report : Report) (figures place : List ℕ) (r : ℕ) (figures' place' : List ℕ) → ReportCall report figures place r figures' place'
    → (r ≡ 0 → ⊥) → figures' ≡ figures
report_unchanged report figures place r figures' place' call refused = go (shorter figures 16 || shorter place 2) refl
  where
    by : (x : Report) → r ≡ answer_number x → figures' ≡ figures_after x figures → figures' ≡ figures
    by (Ok found) e f = absurd (refused e)
    by (Err x) e f = f

    go : (b : Bool) → (shorter figures 16 || shorter place 2) ≡ b → figures' ≡ figures
    go true e = rw e at call.figures_after
    go false e = by report (rw e at call.answer) (rw e at call.figures_after)

add_unchanged :
    (report : Report) (words place : List ℕ) (r : ℕ) (words' place' : List ℕ) → AddCall report words place r words' place'
    → added_to words report ≡ Added.Unchanged → words' ≡ words
add_unchanged report words place r words' place' call full = go (shorter words 6 || shorter place 2) refl
  where
    go : (b : Bool) → (shorter words 6 || shorter place 2) ≡ b → words' ≡ words
    go true e = rw e at call.totals_after
    go false e = (rw e at call.totals_after) ∙ ap (λ (x : Added). totals_after x (add_report (totals_in words) report).totals words) full

pub refused_reports_change_nothing : RefusedReportsChangeNothing
refused_reports_change_nothing =
    record {
      report = report_unchanged;
      add = add_unchanged;
      add_short = λ report words place r words' place' call short. (rw short at call.totals_after, rw short at call.place_after);
    }
