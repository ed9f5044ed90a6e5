-- `Layout::put_edges` meets its contract: the two numbers of an edge are those of the new one (`Laying`).
use Rattle.std.proofs.Common.{rules}
use mathlib.Core.Path.{sym}
use native.Mathlib.Omega.{arith}
use Rattle.rewrite.proofs.Laying.{edge_more}
use Rattle.rewrite.proofs.Layout.put_edges.Goals as goal

pub loop-i-preserved : goal.loop-i-preserved
loop-i-preserved c =
    let t = c.target_of.ensures in
    let mine = c.requires.1.mine c.loop-i.i (omega (arith, c.loop-i.auto)) c.loop-i-test.true in
    (λ before p. edge_more c.args.self.now.mapped (c.loop-i.invariant.0 before p) c.block_end.ensures.0 (sym mine) t.is t.below, search rules)
