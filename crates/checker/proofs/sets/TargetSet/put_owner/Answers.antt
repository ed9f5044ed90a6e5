-- `sets::TargetSet::put_owner` meets its contract: one more edge of the jump, one more address with its owner.
use native.Mathlib.Omega.{arith}
use Rattle.checker.proofs.Runs.{owner_none, owner_more, owner_all}
use Rattle.checker.proofs.sets.TargetSet.put_owner.Goals as goal

pub loop-i-init : goal.loop-i-init
loop-i-init c = (omega arith, owner_none _ _ _ _ c.args.self.now.edges_of _ c.requires)

pub loop-i-preserved : goal.loop-i-preserved
loop-i-preserved c = (
  omega (arith, c.loop-i.invariant.0),
  owner_more _ _ _ _ c.args.self.now.edges_of _ _ _ _ c.args.self.now.claim.claimed.within.small c.loop-i.invariant.0 c.loop-i-test.true
      c.target-t.ensures.is c.target-t.ensures.below c.loop-i.invariant.1,
)

pub returns : goal.returns
returns c =
    owner_all _ _ _ _ c.args.self.now.edges_of _ _ _
    (omega (arith, c.loop-i-test.false, c.loop-i.auto.i, c.args.self.now.edges_of.some_edge)) c.loop-i.invariant.1
