-- `put_path` meets its contract: the last address that is left is put before those that stand in the place (`Laying`).
use mathlib.Core.Path.{◌≡◌}
use native.Mathlib.Omega.{arith}
use Rattle.paths.proofs.Laying.{laying_none, laying_back, laying_all}
use Rattle.paths.proofs.reached.Reached.put_path.Goals as goal

pub loop-k-init : goal.loop-k-init
loop-k-init c = laying_none c.args.self.now c.requires.1 c.args.end c.requires.2 c.args.place.now c.args.len c.requires.4

pub loop-k-preserved : goal.loop-k-preserved
loop-k-preserved c =
    rw c.from-i.ensures
    (laying_back c.args.self.now c.requires.1 c.args.end c.requires.2 c.args.place.now c.loop-k.i c.loop-k.k c.loop-k.place c.loop-k-test.true
    (omega (arith, c.loop-k.auto.k, c.requires.5)) c.loop-k.invariant)

pub returns : goal.returns
returns c =
    let e : c.loop-k.k ≡ 0 = omega (arith, c.loop-k-test.false) in
    laying_all c.args.self.now c.requires.1 c.args.end c.requires.2 c.args.place.now c.loop-k.i c.loop-k.place (rw e at c.loop-k.invariant)
