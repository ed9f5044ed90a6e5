-- `parcel::bytes::numbers_into` meets its contract: a turn reads one number, and at the end none is left (`Runs`).
use Rattle.std.proofs.Common.{◌≡◌, ℕ, ◌+◌, ◌*◌, List, drop, subst, sym, arith}
use Rattle.rising.proofs.Numbers.{numbers_length, numbers_set}
use Rattle.parcel.specs.Bytes.{number_of}
use Rattle.parcel.proofs.Runs.{Reading, reading_goes_on, reading_ends}
use Rattle.parcel.proofs.bytes.numbers_into.Goals as goal

pub loop-i-preserved : goal.loop-i-preserved
loop-i-preserved g c =
    let w = g.N.Stored.WIDTH in
    let read : g.N.Number.number c.read.result ≡ number_of w (drop (c.args.at + c.loop-i.i * w) c.args.s.now) =
    subst (λ (v : ℕ). g.N.Number.number c.read.result ≡ number_of w (drop (c.args.at + c.loop-i.i * v) c.args.s.now)) c.WIDTH.ensures c.read.ensures in
    subst (λ (to : List ℕ). Reading w c.args.s.now c.args.at c.args.k (g.N.Number.numbers c.args.to.now) to (c.loop-i.i + 1))
    (sym (numbers_set g.N.Number.numbers g.N.Number.number g.N.Number.each c.loop-i.to c.loop-i.i c.read.result))
    (reading_goes_on c.loop-i.invariant c.loop-i-test.true read)

pub returns : goal.returns
returns g c =
    let long = numbers_length g.N.Number.numbers g.N.Number.number g.N.Number.each c.args.to.now in
    reading_ends c.loop-i.invariant (omega arith) (omega (arith, long))
