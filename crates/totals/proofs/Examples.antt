-- The example: by the reports that are shown in `report`, one after the other.
use mathlib.Core.Path.{ap, ◌∙◌}
use mathlib.Core.List.{[], ◌∷◌}
use Rattle.std.specs.Prelude.{Some, None}
use Rattle.report.specs.Figures.{freedom}
use Rattle.report.specs.Reports.{Report}
use Rattle.report.proofs.Examples.{reports_shown}
use Rattle.totals.specs.Totals.{totals, fresh_totals, largest_at, add_report}
use Rattle.totals.specs.Theorems.{add_all}
use Rattle.totals.specs.Examples.{post, TotalsShown}

pub totals_shown : TotalsShown
unfolding add_all add_report
totals_shown =
    ap (λ (r : Report). add_all (add_report fresh_totals r).totals (post ∷ post ∷ [])) reports_shown.refused
    ∙ ap (λ (r : Report). add_all (add_report (totals 1 0 0 None) r).totals (post ∷ [])) reports_shown.post
    ∙ ap (λ (r : Report). (add_report (totals 2 1 9 (Some (largest_at 1 (freedom 1 9)))) r).totals) reports_shown.post
