-- `note` meets its contract: as many addresses are in the queue as are marked, so there is room for one more (`Queues`).
use native.Mathlib.Omega.{arith}
use Rattle.paths.specs.Inside.{follows_in}
use Rattle.paths.proofs.Queues.{queue_few, note_room, led_note}
use Rattle.paths.proofs.Successors.{inside}
use Rattle.paths.proofs.program.Program.note.Goals as goal

pub note-requires : goal.note-requires
note-requires c =
    let program = c.args.self.now in
    let small = program.searchable.sized.code_limit in
    let led = c.requires.0 in (
      led.queue.sizes,
      small,
      omega (arith, led.here, queue_few (follows_in program) program.n (inside program) led.queue, small),
      note_room (follows_in program) program.n (inside program) small led c.requires.1,
    )

pub returns-clause-led : goal.returns-clause-led
returns-clause-led c =
    let program = c.args.self.now in
    rw c.note.ensures (led_note (follows_in program) program.n (inside program) program.searchable.sized.code_limit c.requires.0 c.requires.1).0

pub returns-clause-grown : goal.returns-clause-grown
returns-clause-grown c =
    let program = c.args.self.now in
    rw c.note.ensures (led_note (follows_in program) program.n (inside program) program.searchable.sized.code_limit c.requires.0 c.requires.1).1
