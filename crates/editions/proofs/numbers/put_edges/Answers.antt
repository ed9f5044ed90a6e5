-- `put_edges` meets its contract: a turn stores the two numbers of an edge, and at the end none is left (`Converting`).
use Rattle.std.proofs.Common.{◌*◌, arith}
use Rattle.editions.proofs.Converting.{converting_edge, converting_ends}
use Rattle.editions.proofs.numbers.put_edges.Goals as goal

pub loop-k-preserved : goal.loop-k-preserved
loop-k-preserved g c =
    converting_edge c.args.s.now c.loop-k.invariant c.loop-k-test.true c.requires.0 c.requires.1 c.half-jump.ensures c.half-target.ensures
    c.put_half.ensures c.put_half-in-loop-k.ensures

pub returns : goal.returns
returns g c = converting_ends g.row.W g.row.V c.args.s.now (c.args.edges * 2) c.loop-k.invariant (omega (arith, c.loop-k-test.false))
