-- What the header says of the calls for the owner that are refused: they change nothing then. `proofs/Unchanged.antt` has the proofs.
use Rattle.std.specs.Prelude.{ℕ, ◌≡◌, true, ◌||◌, List}
use Rattle.lists.specs.Places.{shorter}
use Rattle.report.specs.Reports.{Report}
use Rattle.totals.specs.declared.Added.{Added}
use Rattle.owner.specs.Reports.{added_to, ReportCall, AddCall}

pub record RefusedReportsChangeNothing : Type 0 where
  -- a report with a number: the figures are as they were
  pub report :
      (report : Report) (figures place : List ℕ) (r : ℕ) (figures' place' : List ℕ) → ReportCall report figures place r figures' place'
      → (r ≡ 0 → ⊥) → figures' ≡ figures
  -- totals that are full, whose sum would not fit, or that are none; and a place that is too short
  pub add :
      (report : Report) (words place : List ℕ) (r : ℕ) (words' place' : List ℕ) → AddCall report words place r words' place'
      → added_to words report ≡ Added.Unchanged → words' ≡ words
  pub add_short :
      (report : Report) (words place : List ℕ) (r : ℕ) (words' place' : List ℕ) → AddCall report words place r words' place'
      → (shorter words 6 || shorter place 2) ≡ true → (words' ≡ words) × (place' ≡ place)
