-- `pg_narrow` meets its contract: the part of the place that may be used is all of it, or none (`Calls`).
use Rattle.parcel.specs.Parcel.{read_of}
use Rattle.capi.proofs.Puts.{put_done}
use Rattle.wide.proofs.Calls.{careful_narrow}
use Rattle.wide.proofs.pg_narrow.Goals as goal

pub returns : goal.returns
returns c =
    put_done (careful_narrow (read_of 4 c.args.wide.now)) c.room_of-room.ensures c.narrow-written.ensures.answers c.narrow-written.ensures.bytes c.put_written.ensures
