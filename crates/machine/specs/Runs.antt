-- The bounded run (document 01, "Steps"): the figure steps one after another.
use Rattle.std.specs.Prelude.{◌≡◌, ℕ, zero, suc, ◌+◌, cond, List, length, Ok, Err}
use Rattle.answers.specs.declared.Refusal.{Refusal}
use Rattle.isa.specs.declared.Technique.{Technique}
use Rattle.machine.specs.declared.State.{State}
use Rattle.machine.specs.declared.Halt.{Halt}
use Rattle.machine.specs.declared.Ran.{Ran}
use Rattle.machine.specs.Numbers.{Outcome}
use Rattle.machine.specs.Steps.{step_shaped, step_of, step_memory}

abbrev pub ran : State → Outcome → ℕ → Ran
ran s ending count = record { state = s; ending = ending; count = count }

abbrev pub if_made : {A : Type 0} → Outcome → A → A → A
if_made (Ok _) goesOn ends = goesOn
if_made (Err halt) goesOn ends = ends

-- at most k further steps, after count of them: "makes steps until one cannot be made or the limit is reached"; "Having made as
-- many steps as the limit, it is spent and tries no further one"
unfoldable pub run_from : Technique → ℕ → ℕ → List ℕ → State → ℕ → Ran
run_from t n zero m s count = ran s (Ok tt) count
run_from t n (suc k) m s count =
    if_made (step_of t n m s).outcome
    (run_from t n k (step_memory t n m s) (step_of t n m s).state (count + 1))
    (ran (step_of t n m s).state (step_of t n m s).outcome count)

unfoldable pub run_memory_from : Technique → ℕ → ℕ → List ℕ → State → List ℕ
run_memory_from t n zero m s = m
run_memory_from t n (suc k) m s =
    if_made (step_of t n m s).outcome
    (run_memory_from t n k (step_memory t n m s) (step_of t n m s).state)
    (step_memory t n m s)

-- a call of `run`: 6, also at limit 0, or the run
unfoldable pub run_of : Technique → ℕ → ℕ → List ℕ → State → Ran
run_of t n limit m s =
    cond (step_shaped (length m) n s.depth) (run_from t n limit m s 0) (ran s (Err (Halt.Refused Refusal.Shape)) 0)

unfoldable pub run_memory : Technique → ℕ → ℕ → List ℕ → State → List ℕ
run_memory t n limit m s = cond (step_shaped (length m) n s.depth) (run_memory_from t n limit m s) m

-- the contract of `run`: its answer r, and the memory m' that it leaves
pub record Runs (t : Technique) (n limit : ℕ) (m : List ℕ) (s : State) (r : Ran) (m' : List ℕ) : Type 0 where
  pub answer : r ≡ run_of t n limit m s
  pub memory : m' ≡ run_memory t n limit m s
