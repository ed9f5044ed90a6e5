-- `report::report_parcel` meets its contract: what the reader ensures, handed to the laws of places of 4,096.
use mathlib.Core.Path.{refl, ◌∙◌}
use Rattle.std.proofs.lemmas.Result.{err_from_is_err_and}
use Rattle.report.proofs.Reports.{read_report, refused_parcel}
use Rattle.report.proofs.report_parcel.Goals as goal

pub returns-in_err-counts : goal.returns-in_err-counts
returns-in_err-counts c =
    let p = err_from_is_err_and c.from_residual.result c.from_residual.ensures.1 in
    rw (p.1, p.2) (refused_parcel c.read_parcel.ensures refl refl c.args.technique c.in_err-counts.was)

pub returns : goal.returns
returns c = c.report_read.ensures ∙ read_report c.read_parcel.ensures refl refl _ c.in_ok-counts.was
