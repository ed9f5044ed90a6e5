-- `put_firsts` meets its contract: the first edges of the jumps whose edges were passed are there.
use Rattle.paths.proofs.FirstEdges.{FirstsTo}
use Rattle.paths.proofs.program.Program.put_firsts.Given as goal

abbrev pub invariant-loop-k : goal.invariant-loop-k
invariant-loop-k l = FirstsTo l.self.edges.now l.firsts l.k
