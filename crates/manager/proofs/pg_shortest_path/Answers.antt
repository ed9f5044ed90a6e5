-- `pg_shortest_path` meets its contract: the part of the place for the path that may be used is all of it, or none (`Calls`).
use Rattle.manager.proofs.Calls.{call_done}
use Rattle.manager.proofs.pg_shortest_path.Goals as goal

pub returns : goal.returns
returns c = call_done c.put_found.ensures c.room_of-room.ensures (rw c.technique_of.ensures at c.shortest_path-found.ensures)
