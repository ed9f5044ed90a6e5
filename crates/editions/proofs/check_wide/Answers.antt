-- `check_wide` meets its contract: the numbers that are cut get the same verdict (`Outside`).
use Rattle.std.proofs.Common.{sym, ◌∙◌}
use Rattle.editions.proofs.Outside.{cut_checked}
use Rattle.editions.proofs.check_wide.Goals as goal

pub returns : goal.returns
returns c =
    cut_checked c.args.technique c.args.memory.now c.args.n c.args.edges.now _ (sym c.call_shaped.ensures ∙ c.if-not-call_shaped.false)
    c.cut_into.ensures c.check.ensures
