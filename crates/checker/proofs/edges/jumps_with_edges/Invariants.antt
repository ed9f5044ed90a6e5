-- `edges::jumps_with_edges` meets its contract: no jmp passed lacks an edge, the edges passed being those that start below, and the jmps
-- passed are counted.
use mathlib.Core.Path.{◌≡◌}
use Rattle.graph.specs.Rules.{lacks_edge}
use Rattle.checker.specs.Ends.{is_jump_at}
use Rattle.checker.proofs.Runs.{Cut}
use Rattle.lists.specs.Search.{count}
use Rattle.lists.proofs.Search.{Clean}
use Rattle.checker.proofs.edges.jumps_with_edges.Given as goal

abbrev pub invariant-loop-a : goal.invariant-loop-a
invariant-loop-a l =
    Clean (lacks_edge l.claim.code.memory.now l.claim.edges.now) l.a
    × Cut l.claim.edges.now l.a l.k
    × (l.jumps ≡ count (is_jump_at l.claim.code.memory.now) l.a)
