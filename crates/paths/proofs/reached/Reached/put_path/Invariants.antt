-- `put_path` meets its contract: the addresses walked back stand in the place.
use Rattle.paths.proofs.Laying.{Laying}
use Rattle.paths.proofs.reached.Reached.put_path.Given as goal

abbrev pub invariant-loop-k : goal.invariant-loop-k
invariant-loop-k l = Laying l.self l.end l.i l.k l.initial.place l.place
