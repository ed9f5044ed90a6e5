-- `path_len` meets its contract: one address more is counted, and the trail to it is shorter by one (`Laying`).
use native.Mathlib.Omega.{arith}
use Rattle.paths.proofs.Laying.{counting_none, counting_more, counting_all}
use Rattle.paths.proofs.reached.Reached.path_len.Goals as goal

pub loop-i-init : goal.loop-i-init
loop-i-init c = counting_none c.args.self.now c.requires.1 c.args.end c.requires.2

pub overflow_add-len : goal.overflow_add-len
overflow_add-len c = omega (arith, c.loop-i.invariant.few, c.requires.2, c.requires.3)

pub loop-i-preserved : goal.loop-i-preserved
loop-i-preserved c =
    rw c.from-i.ensures (counting_more c.args.self.now c.requires.1 c.args.end c.loop-i.i c.loop-i.len (omega (arith, c.loop-i-test.true)) c.loop-i.invariant)

pub returns : goal.returns
returns c = counting_all c.args.self.now c.requires.1 c.args.end c.loop-i.len (rw c.loop-i-test.false at c.loop-i.invariant)
