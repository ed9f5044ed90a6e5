-- A run with limit 1 is a step: whatever the step's outcome, the run ends with it.
use Rattle.std.proofs.Common.{◌≡◌, ℕ, Bool, true, false, List, length, refl, Ok, Err}
use Rattle.isa.specs.declared.Technique.{Technique}
use Rattle.machine.specs.declared.State.{State}
use Rattle.machine.specs.Numbers.{Outcome}
use Rattle.machine.specs.Steps.{stepped, step_shaped, step_of, step_memory}
use Rattle.machine.specs.Runs.{ran, if_made, run_from, run_memory_from, run_of, run_memory}

pub record OneStep (t : Technique) (n : ℕ) (m : List ℕ) (s : State) : Type 0 where
  pub answer : stepped (run_of t n 1 m s).state (run_of t n 1 m s).ending ≡ step_of t n m s
  pub ending : (run_of t n 1 m s).ending ≡ (step_of t n m s).outcome
  pub memory : run_memory t n 1 m s ≡ step_memory t n m s

ends : (o : Outcome) (s : State) → (if_made o (ran s (Ok tt) 1) (ran s o 0)).ending ≡ o
ends (Ok _) s = refl
ends (Err halt) s = refl

ends_answer : (o : Outcome) (s : State)
    → stepped (if_made o (ran s (Ok tt) 1) (ran s o 0)).state (if_made o (ran s (Ok tt) 1) (ran s o 0)).ending ≡ stepped s o
ends_answer (Ok _) s = refl
ends_answer (Err halt) s = refl

ends_memory : (o : Outcome) (m : List ℕ) → if_made o m m ≡ m
ends_memory (Ok _) m = refl
ends_memory (Err halt) m = refl

shaped_step : (t : Technique) (n : ℕ) (m : List ℕ) (s : State) → step_shaped (length m) n s.depth ≡ true → OneStep t n m s
unfolding run_of run_memory run_from run_memory_from
shaped_step t n m s e =
    record {
      answer = rw e (ends_answer (step_of t n m s).outcome (step_of t n m s).state);
      ending = rw e (ends (step_of t n m s).outcome (step_of t n m s).state);
      memory = rw e (ends_memory (step_of t n m s).outcome (step_memory t n m s));
    }

refused_step : (t : Technique) (n : ℕ) (m : List ℕ) (s : State) → step_shaped (length m) n s.depth ≡ false → OneStep t n m s
unfolding run_of run_memory step_of step_memory
refused_step t n m s e = record { answer = rw e; ending = rw e; memory = rw e }

pub one_step : (t : Technique) (n : ℕ) (m : List ℕ) (s : State) → OneStep t n m s
one_step t n m s = go (step_shaped (length m) n s.depth) refl
  where
    go : (b : Bool) → step_shaped (length m) n s.depth ≡ b → OneStep t n m s
    go true e = shaped_step t n m s e
    go false e = refused_step t n m s e
