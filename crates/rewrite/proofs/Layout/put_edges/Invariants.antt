-- `Layout::put_edges` meets its contract: edge after edge (`Laying`).
use mathlib.Core.Path.{◌≡◌}
use lib.ListN.{length}
use Rattle.rewrite.specs.Inside.{EdgesPut}
use Rattle.rewrite.proofs.Layout.put_edges.Given as goal

abbrev pub invariant-loop-i : goal.invariant-loop-i
invariant-loop-i l =
    EdgesPut l.self.bare.memory.now l.self.bare.n l.self.bare.edges.now l.k l.i l.new_edges l.initial.new_edges
    × (length l.new_edges ≡ length l.initial.new_edges)
