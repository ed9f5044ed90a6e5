-- `path_len` meets its contract: the addresses walked back were counted.
use Rattle.paths.proofs.Laying.{Counting}
use Rattle.paths.proofs.reached.Reached.path_len.Given as goal

abbrev pub invariant-loop-i : goal.invariant-loop-i
invariant-loop-i l = Counting l.self l.end l.i l.len

abbrev pub decreases-loop-i : goal.decreases-loop-i
decreases-loop-i l = l.i
