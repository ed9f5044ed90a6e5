-- `narrow` meets its contract: no edge is too wide, and the rest is `convert`'s (`Converted`).
use Rattle.editions.proofs.Converted.{narrowed}
use Rattle.editions.proofs.narrow.Goals as goal

pub returns : goal.returns
returns c = narrowed c.args.wide.now c.args.parcel.now c.in_ok-found.ensures c.in_default.ensures c.convert.ensures
