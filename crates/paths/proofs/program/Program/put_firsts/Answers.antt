-- `put_firsts` meets its contract: one edge more is the first of its jump, or has an earlier one of the same jump before it (`FirstEdges`).
use mathlib.Core.Path.{sym, ◌∙◌}
use native.Mathlib.Omega.{arith}
use Rattle.std.specs.Prelude.{◌<◌}
use Rattle.graph.specs.Claim.{edge_count}
use Rattle.rising.proofs.Rising.{clean_rising}
use Rattle.paths.proofs.FirstEdges.{firsts_put, firsts_same}
use Rattle.paths.proofs.program.Program.put_firsts.Goals.{then-is_first, else-is_first}
use Rattle.paths.proofs.program.Program.put_firsts.Goals as goal

pub loop-k-preserved : goal.loop-k-preserved
loop-k-preserved c =
    let program = c.args.self.now in
    let rising = clean_rising program.edges.now program.searchable.rising in
    let l : c.loop-k.k < edge_count program.edges.now = omega (arith, c.loop-k-test.true, c.count-k-end.ensures) in
    elim c.if-is_first.branch [
      | then-is_first w ↦
          rw w.firsts-is
          (firsts_put program.edges.now rising c.loop-k.k l c.loop-k.invariant w.jump_of.result w.jump_of.ensures.is
          (omega (arith, w.jump_of.ensures.below, program.searchable.within.small)) (sym c.is_first.ensures ∙ w.if-is_first.true))
      | else-is_first w ↦
          rw w.firsts-is (firsts_same program.edges.now rising c.loop-k.k l c.loop-k.invariant (sym c.is_first.ensures ∙ w.if-is_first.false))
    ]

pub returns : goal.returns
returns c = λ k l. c.loop-k.invariant.each k (omega (arith, l, c.loop-k-test.false, c.loop-k.auto.k-end, c.count-k-end.ensures))
