-- `put_edges` meets its contract: the loop over numbers of W bytes, two in a turn (`Converting`).
use Rattle.std.proofs.Common.{◌*◌}
use Rattle.editions.proofs.Converting.{Converting}
use Rattle.editions.proofs.numbers.put_edges.Given as goal

abbrev pub invariant-loop-k : goal.invariant-loop-k
invariant-loop-k g l = Converting g.row.W g.row.V l.s (l.edges * 2) l.initial.to l.start l.to (l.k * 2)
