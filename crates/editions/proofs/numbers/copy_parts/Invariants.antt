-- `copy_parts` meets its contract: the parts before the k-th are put (`Copied`).
use Rattle.std.proofs.Common.{◌+◌, ◌*◌}
use Rattle.editions.specs.Inside.{Copied}
use Rattle.editions.proofs.numbers.copy_parts.Given as goal

abbrev pub invariant-loop-k : goal.invariant-loop-k
invariant-loop-k g l = Copied l.s l.start l.i l.initial.to l.to (l.i + l.k * g.row.N)
