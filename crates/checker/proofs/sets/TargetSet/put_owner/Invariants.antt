-- `sets::TargetSet::put_owner` meets its contract: the targets of the edges passed have the new owner.
use Rattle.std.proofs.Common.{cond, get_or, ◌≤◌}
use Rattle.lists.specs.Tables.{Table}
use Rattle.graph.specs.Claim.{jump_of}
use Rattle.graph.specs.Passes.{edge_in}
use Rattle.checker.proofs.sets.TargetSet.put_owner.Given as goal

abbrev pub invariant-loop-i : goal.invariant-loop-i
invariant-loop-i l = (l.self.first ≤ l.i) × Table l.own l.self.claim.code.n (λ t. cond (edge_in l.self.claim.edges.now l.i (jump_of l.self.claim.edges.now l.self.first) t) l.owner (get_or l.initial.own t 0))
