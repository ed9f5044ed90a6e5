-- `BareCode::put_labels` meets its contract: the entries and the labels of the addresses passed are there.
use Rattle.rewrite.proofs.Labelling.{Labelling}
use Rattle.rewrite.proofs.given.BareCode.put_labels.Given as goal

abbrev pub invariant-loop-a : goal.invariant-loop-a
invariant-loop-a l = Labelling l.self.memory.now l.self.n l.self.edges.now l.self.total l.initial.map l.initial.code l.map l.code l.at l.a
