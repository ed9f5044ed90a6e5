-- The calls on states, lent as `machine` takes them: 162 words, r0 to r31, the pc, the depth and the stack.
use Rattle.std.specs.Prelude.{ℕ, ◌+◌, ◌≡◌, cond, ◌||◌, List, [], ◌∷◌, eqb, Ok, Err}
use Rattle.answers.specs.Numbers.{refusal_number}
use Rattle.isa.specs.declared.Technique.{Technique}
use Rattle.machine.specs.declared.Stop.{Stop}
use Rattle.machine.specs.declared.Halt.{Halt}
use Rattle.machine.specs.Numbers.{Outcome}
use Rattle.machine.specs.Steps.{step_of, step_memory}
use Rattle.machine.specs.Runs.{run_of, run_memory}
use Rattle.machine.specs.Lent.{state_in, words_of, short_state}
use Rattle.bus.specs.Numbers.{written_number}
use Rattle.bus.specs.Bus.{write_data_of, write_data_memory, write_register_of}
use Rattle.lists.specs.Places.{shorter, put_over}
use Rattle.capi.specs.Words.{too_short}

-- 0 is plain, any other number is with memory guards
abbrev pub technique_of : ℕ → Technique
technique_of number = cond (eqb number 0) Technique.Plain Technique.MemoryGuards

-- The number of a stop. Stops 5 and 6 have the numbers of two refusals that these calls answer too, so 256 is added to theirs.
abbrev pub stop_answer : Stop → ℕ
stop_answer Stop.Fetch = 1
stop_answer Stop.Illegal = 2
stop_answer Stop.Access = 3
stop_answer Stop.Next = 4
stop_answer Stop.Full = 256 + 5
stop_answer Stop.Empty = 256 + 6

abbrev pub halt_answer : Halt → ℕ
halt_answer (Halt.Stopped stop) = stop_answer stop
halt_answer (Halt.Refused refusal) = refusal_number refusal

-- what becomes of a step or a run: 0 where it is made, or spent
abbrev pub outcome_answer : Outcome → ℕ
outcome_answer (Ok _) = 0
outcome_answer (Err halt) = halt_answer halt

-- the contract of `pg_step`: its answer r, and the state and the memory that it leaves. Where no step is made, `step_of` gives
-- back the state that it was given, and so every word stays as it was.
pub record StepCall (technique n : ℕ) (state memory : List ℕ) (r : ℕ) (state' memory' : List ℕ) : Type 0 where
  pub answer : r ≡ cond (short_state state) too_short (outcome_answer (step_of (technique_of technique) n memory (state_in state)).outcome)
  pub state_after :
      state' ≡ cond (short_state state) state (put_over (words_of (step_of (technique_of technique) n memory (state_in state)).state) state)
  pub memory_after : memory' ≡ cond (short_state state) memory (step_memory (technique_of technique) n memory (state_in state))

-- the contract of `pg_run`: its answer r, and the state, the memory and the count that it leaves
pub record RunCall (technique n limit : ℕ) (state memory count : List ℕ) (r : ℕ) (state' memory' count' : List ℕ) : Type 0 where
  pub answer :
      r
      ≡ cond (short_state state || shorter count 1) too_short
      (outcome_answer (run_of (technique_of technique) n limit memory (state_in state)).ending)
  pub state_after :
      state'
      ≡ cond (short_state state || shorter count 1) state
      (put_over (words_of (run_of (technique_of technique) n limit memory (state_in state)).state) state)
  pub memory_after :
      memory'
      ≡ cond (short_state state || shorter count 1) memory
      (run_memory (technique_of technique) n limit memory (state_in state))
  pub count_after :
      count'
      ≡ cond (short_state state || shorter count 1) count
      (put_over ((run_of (technique_of technique) n limit memory (state_in state)).count ∷ []) count)

-- the contract of `pg_write_data`: its answer r, and the memory that it leaves
pub record WriteDataCall (n : ℕ) (memory : List ℕ) (address word : ℕ) (r : ℕ) (memory' : List ℕ) : Type 0 where
  pub answer : r ≡ written_number (write_data_of n memory address)
  pub memory_after : memory' ≡ write_data_memory n memory address word

-- the contract of `pg_write_register`: its answer r, and the state that it leaves
pub record WriteRegisterCall (state : List ℕ) (register word : ℕ) (r : ℕ) (state' : List ℕ) : Type 0 where
  pub answer : r ≡ cond (short_state state) too_short (written_number (write_register_of (state_in state) register word).answer)
  pub state_after :
      state' ≡ cond (short_state state) state (put_over (words_of (write_register_of (state_in state) register word).state) state)
