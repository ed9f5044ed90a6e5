-- `pg_widen` meets its contract: the part of the place that may be used is all of it, or none (`Calls`).
use Rattle.parcel.specs.Parcel.{read_of}
use Rattle.capi.proofs.Puts.{put_done}
use Rattle.wide.proofs.Calls.{careful_widen}
use Rattle.wide.proofs.pg_widen.Goals as goal

pub returns : goal.returns
returns c =
    put_done (careful_widen (read_of 2 c.args.parcel.now)) c.room_of-room.ensures c.widen-written.ensures.answers c.widen-written.ensures.bytes c.put_written.ensures
