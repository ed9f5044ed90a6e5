-- `pg_rewrite` meets its contract: the part of the place for the code that may be used is all of it, or none (`Calls`).
use Rattle.installer.proofs.Calls.{call_done}
use Rattle.installer.proofs.pg_rewrite.Goals as goal

pub returns : goal.returns
returns c = call_done c.put_rewritten.ensures c.room_of-room.ensures c.rewrite-rewritten.ensures
