-- `graph_of` makes a graph: where neither rule has a faulty place, what the two passes know.
use Rattle.std.proofs.Common.{arith}
use mathlib.Core.Path.{sym, ◌∙◌}
use Rattle.lists.proofs.First.{first_clean}
use Rattle.checker.proofs.Rules.{unless_ok}
use Rattle.checker.proofs.graph_of.Goals as goal

pub invariant_of-result : goal.invariant_of-result
invariant_of-result c =
    let told = unless_ok (sym c.jumps_with_edges.ensures ∙ grind arith) in
    record { leaving = first_clean _ _ told.0; counted = told.1; owned = c.first_overlap-b.ensures.owners (grind arith) }
