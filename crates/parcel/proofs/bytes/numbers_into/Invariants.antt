-- `parcel::bytes::numbers_into` meets its contract: the reading of numbers of so many bytes (`Runs`).
use Rattle.parcel.proofs.Runs.{Reading}
use Rattle.parcel.proofs.bytes.numbers_into.Given as goal

abbrev pub invariant-loop-i : goal.invariant-loop-i
invariant-loop-i g l = Reading g.N.Stored.WIDTH l.s l.at l.k (g.N.Number.numbers l.initial.to) (g.N.Number.numbers l.to) l.i
