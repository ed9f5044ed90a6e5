-- The loop's invariant: what the rest of the run gives from here is what the whole gives.
use Rattle.std.proofs.Common.{◌≡◌, ◌-◌, true, length}
use Rattle.machine.specs.Steps.{stack_places, step_shaped}
use Rattle.machine.specs.Runs.{run_from, run_memory_from}
use Rattle.machine.specs.Inside.{state_at}
use Rattle.machine.proofs.run_over.Given as goal

abbrev pub invariant-loop-count : goal.invariant-loop-count
invariant-loop-count l =
    record {
      registers : length l.regs ≡ 32;
      stack : length l.stack ≡ stack_places;
      shaped : step_shaped (length l.memory) l.figure.n l.at.depth ≡ true;
      answer :
          run_from l.figure.technique l.figure.n (l.limit - l.count) l.memory (state_at l.regs l.at l.stack) l.count
          ≡ run_from l.figure.technique l.figure.n l.limit l.initial.memory (state_at l.initial.regs l.initial.at l.initial.stack) 0;
      memory_after :
          run_memory_from l.figure.technique l.figure.n (l.limit - l.count) l.memory (state_at l.regs l.at l.stack)
          ≡ run_memory_from l.figure.technique l.figure.n l.limit l.initial.memory (state_at l.initial.regs l.initial.at l.initial.stack);
    }
