-- `convert` meets its contract: three pieces are the parcel of the other edition (`Converted`).
use Rattle.std.proofs.Common.{◌+◌, ◌*◌, sym, arith}
use Rattle.std.proofs.Math.Seq.{length-take-le}
use Rattle.editions.proofs.Converted.{counted_long, convert_done}
use Rattle.editions.proofs.convert.Goals as goal

pub slice_bounds-copy-end : goal.slice_bounds-copy-end
slice_bounds-copy-end g c =
    sym (length-take-le (8 + c.args.found.code * 8) c.args.s.now (omega (arith, counted_long g.row.W c.args.s.now c.requires.5)))

pub returns : goal.returns
returns g c =
    convert_done g.row.W g.row.V c.args.s.now c.args.to.now c.requires.5 (λ i. (c.type_inv.s i).fits) c.if-to-put.false c.copy.ensures
    c.put_edges.ensures c.copy-2.ensures
