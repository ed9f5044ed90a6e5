-- `cut_into` meets its contract: what is still to be stored makes the whole (`Cutting`).
use Rattle.editions.proofs.Outside.{Cutting}
use Rattle.editions.proofs.cut.cut_into.Given as goal

abbrev pub invariant-loop-i : goal.invariant-loop-i
invariant-loop-i l = Cutting l.edges l.initial.low l.low l.i
