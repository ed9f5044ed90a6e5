-- `BareCode::put_owners` meets its contract: after k edges each target of the first k has the ID of its set.
use Rattle.rewrite.proofs.TargetSets.{Owning}
use Rattle.rewrite.proofs.given.BareCode.put_owners.Given as goal

abbrev pub invariant-loop-k : goal.invariant-loop-k
invariant-loop-k l = Owning l.self.edges.now l.self.n l.initial.map l.map l.k l.id
