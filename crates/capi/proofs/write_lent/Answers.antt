-- `write_lent` meets its contract: the part of the place that may be used is all of it, or none (`Puts`).
use Rattle.capi.proofs.Parcels.{careful_writer}
use Rattle.capi.proofs.Puts.{put_done}
use Rattle.capi.proofs.write_lent.Goals as goal

pub returns : goal.returns
returns g c = put_done (careful_writer _ c.args.memory.now c.args.n _) c.room_of-room.ensures c.write_parcel-written.ensures.answers c.write_parcel-written.ensures.bytes c.put_written.ensures
