-- `copy_parts` meets its contract: a turn puts one more part (`copied_more`).
use Rattle.editions.proofs.Copying.{copied_more}
use Rattle.editions.proofs.numbers.copy_parts.Goals as goal

pub loop-k-preserved : goal.loop-k-preserved
loop-k-preserved g c = copied_more g.row.N c.requires.1 c.loop-k-test.true c.loop-k.invariant c.copy_part.ensures
