-- What the header says of the calls that can be refused: they change nothing then, and a stop is told from a refusal.
-- `proofs/Unchanged.antt` and `proofs/Apart.antt` have the proofs.
use Rattle.std.specs.Prelude.{ℕ, ◌≡◌, ◌≢◌, false, List, length}
use Rattle.answers.specs.declared.Refusal.{Refusal}
use Rattle.answers.specs.Numbers.{refusal_number}
use Rattle.machine.specs.declared.Stop.{Stop}
use Rattle.machine.specs.Steps.{step_shaped}
use Rattle.machine.specs.Lent.{state_in}
use Rattle.capi.specs.Words.{too_short}
use Rattle.capi.specs.States.{stop_answer, StepCall, RunCall, WriteDataCall, WriteRegisterCall}

pub record RefusedChangesNothing : Type 0 where
  -- a step that is not made: a stop, 5 or 6
  pub step :
      (technique n : ℕ) (state memory : List ℕ) (r : ℕ) (state' memory' : List ℕ)
      → StepCall technique n state memory r state' memory' → (r ≡ 0 → ⊥) → (state' ≡ state) × (memory' ≡ memory)
  -- a run with 6
  pub run :
      (technique n limit : ℕ) (state memory count : List ℕ) (r : ℕ) (state' memory' count' : List ℕ)
      → RunCall technique n limit state memory count r state' memory' count' → step_shaped (length memory) n (state_in state).depth ≡ false
      → (state' ≡ state) × (memory' ≡ memory)
  pub write_data :
      (n : ℕ) (memory : List ℕ) (address word r : ℕ) (memory' : List ℕ) → WriteDataCall n memory address word r memory' → (r ≡ 0 → ⊥)
      → memory' ≡ memory
  pub write_register :
      (state : List ℕ) (register word r : ℕ) (state' : List ℕ) → WriteRegisterCall state register word r state' → (r ≡ 0 → ⊥)
      → state' ≡ state

-- "a C caller must be able to tell them apart" (K8): no two stops have one number, and none has 0 or the number of a refusal that a step or a
-- run may answer, 5 or 6
pub record StopsApart : Type 0 where
  pub one_stop : (a b : Stop) → stop_answer a ≡ stop_answer b → a ≡ b
  pub not_made : (stop : Stop) → stop_answer stop ≢ 0
  pub not_too_short : (stop : Stop) → stop_answer stop ≢ too_short
  pub not_shape : (stop : Stop) → stop_answer stop ≢ refusal_number Refusal.Shape
