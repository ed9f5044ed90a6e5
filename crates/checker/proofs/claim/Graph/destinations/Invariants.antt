-- `Graph::destinations` meets its contract: the destinations among the addresses passed are counted.
use mathlib.Core.Path.{◌≡◌}
use Rattle.lists.specs.Search.{count}
use Rattle.graph.specs.Claim.{is_destination}
use Rattle.checker.proofs.claim.Graph.destinations.Given as goal

abbrev pub invariant-loop-a : goal.invariant-loop-a
invariant-loop-a l = l.count ≡ count (is_destination l.self.claim.edges.now) l.a
