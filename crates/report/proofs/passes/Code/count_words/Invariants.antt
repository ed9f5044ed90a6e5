-- After a words the counts are those of the first a.
use Rattle.report.specs.Inside.{Counted}
use Rattle.report.proofs.passes.Code.count_words.Given as goal

abbrev pub invariant-loop-a : goal.invariant-loop-a
invariant-loop-a l = Counted l.self.memory.now l.self.n l.a l.kinds l.labels l.jumps
