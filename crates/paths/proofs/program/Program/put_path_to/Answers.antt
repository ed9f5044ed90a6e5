-- `put_path_to` meets its contract: the trail to the place found is the best path, and it is counted and put (`Answers`).
use Rattle.paths.proofs.Trails.{trail_at}
use Rattle.paths.proofs.Answers.{unreachable, too_short, found}
use Rattle.paths.proofs.program.Program.put_path_to.Goals as goal

pub returns-in_default : goal.returns-in_default
returns-in_default c = unreachable c.args.self.now c.args.address c.args.place.now c.in_default.ensures

pub returns-then-place-len : goal.returns-then-place-len
returns-then-place-len c =
    let s = c.in-Some.ensures in
    let way = trail_at s.3 c.in-Some.end s.0 in
    rw c.nowhere.ensures
    (too_short c.args.self.now c.args.address c.args.place.now way.0 c.path_len-len.result (s.4 way.0 way.1) (c.path_len-len.ensures way.0 way.1)
    c.if-place-len.true)

pub returns : goal.returns
returns c =
    let s = c.in-Some.ensures in
    let way = trail_at s.3 c.in-Some.end s.0 in
    found c.args.self.now c.args.address c.args.place.now way.0 c.path_len-len.result (s.4 way.0 way.1) (c.path_len-len.ensures way.0 way.1)
    c.if-place-len.false (c.put_path.ensures way.0 way.1)
