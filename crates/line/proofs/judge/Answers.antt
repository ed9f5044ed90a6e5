-- `line::judge` meets its contract: what the reader and the checker ensure, handed to the laws of places of 4,096.
use Rattle.std.proofs.Common.{refl, sym, ◌∙◌}
use Rattle.std.proofs.lemmas.Result.{err_from_is_err_and}
use Rattle.line.proofs.Places.{judge_refused, judge_read}
use Rattle.line.proofs.judge.Goals as goal

pub returns-in_err-found : goal.returns-in_err-found
returns-in_err-found c =
    let p = err_from_is_err_and c.from_residual.result c.from_residual.ensures.1 in
    rw (p.1, p.2) (judge_refused c.args.parcel.now (sym c.read_parcel.ensures.answers ∙ c.in_err-found.was))

pub returns-in_err-check : goal.returns-in_err-check
returns-in_err-check c =
    let p = err_from_is_err_and c.from_residual-in_err-check.result c.from_residual-in_err-check.ensures.1 in
    rw (p.1, p.2)
    (judge_read c.args.parcel.now _ _ _ _ _ c.read_parcel.ensures refl refl c.in_ok-found.was c.check.ensures c.in_err-check.was)

pub returns : goal.returns
returns c =
    judge_read c.args.parcel.now _ _ _ _ _ c.read_parcel.ensures refl refl c.in_ok-found.was c.check.ensures c.in_ok-check.was
