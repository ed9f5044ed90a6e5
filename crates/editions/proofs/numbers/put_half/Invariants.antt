-- `put_half` meets its contract: what is left to put are zeros (`Zeros`).
use Rattle.editions.proofs.Converting.{Zeros}
use Rattle.editions.proofs.numbers.put_half.Given as goal

abbrev pub invariant-loop-i : goal.invariant-loop-i
invariant-loop-i g l = Zeros g.row.V l.x l.at l.fn.s l.s l.i
