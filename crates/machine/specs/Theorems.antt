-- What is proved of steps and runs besides the contracts. `proofs/Theorems.antt` has the proofs.
use Rattle.std.specs.Prelude.{◌≡◌, ℕ, suc, ◌+◌, ◌^◌, ◌<◌, ◌≤◌, true, List, length, ◌≢◌, Ok, Err}
use Rattle.isa.specs.declared.Instr.{Instr}
use Rattle.isa.specs.declared.Technique.{Technique}
use Rattle.isa.specs.Instructions.{instr_at}
use Rattle.machine.specs.declared.State.{State}
use Rattle.machine.specs.declared.Stop.{Stop}
use Rattle.machine.specs.declared.Halt.{Halt}
use Rattle.machine.specs.declared.Ran.{Ran}
use Rattle.machine.specs.Steps.{fetch_end, reg_of, step_shaped, stepped, step_of, step_memory}
use Rattle.machine.specs.Runs.{ran, if_made, run_of, run_memory}

abbrev pub one_more : Ran → Ran
one_more r = ran r.state r.ending (r.count + 1)

module _ (t : Technique) (n : ℕ) (m : List ℕ) (s : State) where
  -- "A step that cannot be made leaves the state and memory unchanged"; so does a refused call
  pub record UnmadeChangesNothing : Type 0 where
    pub state_same : ((step_of t n m s).outcome ≢ Ok tt) → (step_of t n m s).state ≡ s
    pub memory_same : ((step_of t n m s).outcome ≢ Ok tt) → step_memory t n m s ≡ m

  -- K5: "one of two to the 64 or more is stop 3". Where its word is fetched, a load or a store past the top is not made, by either
  -- technique; the memory is then as it was.
  pub record PastTopStops : Type 0 where
    pub load :
        step_shaped (length m) n s.depth ≡ true → s.pc < fetch_end t n (length m) → (rd rs w : ℕ) → instr_at m s.pc ≡ Instr.Ld rd rs w
        → 2 ^ 64 ≤ reg_of s rs + w
        → step_of t n m s ≡ stepped s (Err (Halt.Stopped Stop.Access))
    pub store :
        step_shaped (length m) n s.depth ≡ true → s.pc < fetch_end t n (length m) → (rd rs w : ℕ) → instr_at m s.pc ≡ Instr.St rd rs w
        → 2 ^ 64 ≤ reg_of s rd + w
        → (step_of t n m s ≡ stepped s (Err (Halt.Stopped Stop.Access))) × (step_memory t n m s ≡ m)

  -- a run of limit k + 1 is a step and, where that is made, a run of limit k from what the step leaves
  pub record StepThenRun (k : ℕ) : Type 0 where
    pub answer :
        run_of t n (suc k) m s
        ≡ if_made (step_of t n m s).outcome
        (one_more (run_of t n k (step_memory t n m s) (step_of t n m s).state))
        (ran s (step_of t n m s).outcome 0)
    pub memory :
        run_memory t n (suc k) m s
        ≡ if_made (step_of t n m s).outcome (run_memory t n k (step_memory t n m s) (step_of t n m s).state) m
