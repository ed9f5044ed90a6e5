-- `Graph::destinations` meets its contract: there are at most as many destinations as addresses.
use native.Mathlib.Omega.{arith}
use Rattle.lists.proofs.Counts.{count_max}
use Rattle.graph.specs.Claim.{is_destination}
use Rattle.checker.proofs.claim.Graph.destinations.Goals as goal

pub overflow_add-count : goal.overflow_add-count
overflow_add-count c =
    omega (arith, c.loop-a.invariant, count_max (is_destination c.args.self.now.claim.edges.now) c.loop-a.a, c.args.self.now.claim.code.sized.code_limit)
