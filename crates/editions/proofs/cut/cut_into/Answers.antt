-- `cut_into` meets its contract: a turn stores one number, and at the end none is left (`Outside`).
use Rattle.editions.proofs.Outside.{cutting_goes_on, cutting_ends}
use Rattle.editions.proofs.cut.cut_into.Goals as goal

pub loop-i-preserved : goal.loop-i-preserved
loop-i-preserved c = cutting_goes_on c.loop-i.invariant c.loop-i-test.true c.cut.ensures

pub returns : goal.returns
returns c = cutting_ends c.loop-i.invariant c.loop-i-test.false c.requires
