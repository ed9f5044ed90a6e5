-- `first_not_rising` meets its contract: no edge of the blocks passed falls.
use Rattle.std.specs.Prelude.{◌+◌, ◌*◌, min}
use Rattle.lists.proofs.Search.{Clean}
use Rattle.graph.specs.Claim.{edge_count}
use Rattle.rising.specs.Rising.{not_rising}
use Rattle.rising.proofs.first_not_rising.Given as goal

abbrev pub invariant-loop-block : goal.invariant-loop-block
invariant-loop-block g l = Clean (not_rising (g.E.Number.numbers l.edges)) (min (edge_count (g.E.Number.numbers l.edges)) (1 + 256 * l.block))
