-- `read_lent` meets its contract: the part of the memory that may be used is all of it, or none (`Parcels`).
use Rattle.capi.proofs.Parcels.{read_done}
use Rattle.capi.proofs.read_lent.Goals as goal

pub returns : goal.returns
returns g c = read_done _ c.args.parcel.now c.args.memory.now _ c.args.counts.now c.room_of-room.ensures c.read_parcel-read.ensures c.put_read.ensures
