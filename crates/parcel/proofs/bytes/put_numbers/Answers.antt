-- `parcel::bytes::put_numbers` meets its contract: a turn writes one number, and at the end none is left (`Runs`).
use Rattle.std.proofs.Common.{◌≡◌, ℕ, ◌+◌, ◌*◌, ◌∙◌, get_or, ap₂, sym, arith}
use Rattle.std.proofs.lemmas.List.Edits.{sets}
use Rattle.rising.proofs.Numbers.{numbers_length, number_at}
use Rattle.parcel.specs.Bytes.{bytes_of}
use Rattle.parcel.proofs.Runs.{writing_goes_on, writing_ends}
use Rattle.parcel.proofs.bytes.put_numbers.Goals as goal

pub loop-i-preserved : goal.loop-i-preserved
loop-i-preserved g c =
    let w = g.N.Stored.WIDTH in
    let xs = g.N.Number.numbers c.args.xs.now in
    let i = c.loop-i.i in
    let long = numbers_length g.N.Number.numbers g.N.Number.number g.N.Number.each c.args.xs.now in
    let x : get_or xs i 0 ≡ g.N.Number.number c.index-xs-i.result =
    number_at g.N.Number.numbers g.N.Number.number g.N.Number.each c.args.xs.now i c.index-xs-i.result c.loop-i-test.true c.index-xs-i.is in
    let put : c.write.new.s ≡ sets c.loop-i.s (c.args.at + i * w) (bytes_of w (get_or xs i 0)) =
    c.write.ensures ∙ ap₂ (λ (v n : ℕ). sets c.loop-i.s (c.args.at + i * v) (bytes_of w n)) c.WIDTH.ensures (sym x) in
    writing_goes_on c.loop-i.invariant (omega (arith, long)) put

pub returns : goal.returns
returns g c =
    let long = numbers_length g.N.Number.numbers g.N.Number.number g.N.Number.each c.args.xs.now in
    writing_ends c.loop-i.invariant (omega (arith, long))
