-- `first_not_rising` meets its contract: a block has the first edge that falls, or no edge below its end does.
use Rattle.std.proofs.Common.{◌+◌, ◌*◌, ◌-◌}
use native.Mathlib.Omega.{arith}
use Rattle.lists.proofs.Search.{Clean}
use Rattle.lists.proofs.First.{found_in, clean_in}
use Rattle.graph.specs.Claim.{edge_count}
use Rattle.rising.specs.Rising.{not_rising}
use Rattle.rising.proofs.first_not_rising.Goals as goal

pub returns-in-Some : goal.returns-in-Some
returns-in-Some g c =
    let edges = g.E.Number.numbers c.args.edges.now in
    let from = 1 + 256 * c.loop-block.block in
    let before : Clean (not_rising edges) from = λ k l. c.loop-block.invariant k (omega (arith, l, c.loop-block-test.true, c.div_ceil-block-end.ensures, c.saturating_sub.ensures, c.count-count.ensures)) in
    found_in (not_rising edges) from (c.min.result - from) (edge_count edges) c.in-Some.edge before (omega (arith, c.min.ensures, c.count-count.ensures)) c.in-Some.ensures

pub loop-block-preserved : goal.loop-block-preserved
loop-block-preserved g c =
    let edges = g.E.Number.numbers c.args.edges.now in
    let from = 1 + 256 * c.loop-block.block in
    let before : Clean (not_rising edges) from = λ k l. c.loop-block.invariant k (omega (arith, l, c.loop-block-test.true, c.div_ceil-block-end.ensures, c.saturating_sub.ensures, c.count-count.ensures)) in
    λ k l. clean_in (not_rising edges) from (c.min.result - from) before c.in_default.ensures k (omega (arith, l, c.min.ensures, c.count-count.ensures))
