-- A turn of the loop that is made, and one that stops: by the laws of a turn (`Steps`).
use Rattle.std.proofs.Common.{◌≡◌, true, length, arith, rules}
use Rattle.machine.specs.Steps.{step_shaped}
use Rattle.machine.specs.Runs.{run_of, run_memory}
use Rattle.machine.proofs.Steps.{turn_made, turn_stopped}
use Rattle.machine.proofs.run_over.Goals as goal

pub returns-in-Err : goal.returns-in-Err
unfolding run_of run_memory
returns-in-Err c =
    let e : step_shaped (length c.args.memory.now) c.args.n c.args.start.depth ≡ true = cc in
    let k = turn_stopped _ _ _ _ _ _ _ _ _ _ c.loop-count.invariant.shaped c.advance.ensures c.args.limit c.loop-count.count c.in-Err.stop (omega arith) c.in-Err.is in
    record { answer = rw e (cc k.0); memory = rw e (cc k.1); size = search rules; stack_size = search rules }

pub loop-count-preserved : goal.loop-count-preserved
loop-count-preserved c =
    let k = turn_made _ _ _ _ _ _ _ _ _ _ c.loop-count.invariant.shaped c.advance.ensures c.args.limit c.loop-count.count c.in-Ok.next (omega arith) c.in-Ok.is in
    record { registers = search rules; stack = search rules; shaped = k.2; answer = cc k.0; memory_after = cc k.1 }
