-- `parcel::bytes::put_numbers` meets its contract: the writing of numbers of so many bytes (`Runs`).
use Rattle.parcel.proofs.Runs.{Writing}
use Rattle.parcel.proofs.bytes.put_numbers.Given as goal

abbrev pub invariant-loop-i : goal.invariant-loop-i
invariant-loop-i g l = Writing g.N.Stored.WIDTH (g.N.Number.numbers l.xs) l.at l.initial.s l.s l.i
