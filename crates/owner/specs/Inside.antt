-- What only the private functions of this crate promise each other: totals in lent numbers.
use Rattle.std.specs.Prelude.{ℕ, ◌≡◌, List}
use Rattle.report.specs.Reports.{Report}
use Rattle.totals.specs.declared.Added.{Added}
use Rattle.totals.specs.declared.Totals.{Totals}
use Rattle.totals.specs.Totals.{add_report}
use Rattle.owner.specs.Reports.{totals_in, total_numbers, added_to}

-- the six numbers of the new totals, or the same as before
abbrev pub six_after : Added → Totals → List ℕ → List ℕ
six_after Added.Counted t six = total_numbers t
six_after Added.WithoutJumps t six = total_numbers t
six_after (Added.Refused f) t six = total_numbers t
six_after Added.Unchanged t six = six

-- a report added to the totals in six numbers: what became of it, and the numbers after
pub record AddedIn (report : Report) (six : List ℕ) (r : Added) (six' : List ℕ) : Type 0 where
  pub answer : r ≡ added_to six report
  pub six_after : six' ≡ six_after (added_to six report) (add_report (totals_in six) report).totals six
