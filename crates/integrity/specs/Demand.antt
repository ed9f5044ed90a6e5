-- Demand 3 (document 01, "Lists of calls"), one statement over the whole list, and that a run's answer is that of its steps.
use Rattle.std.specs.Prelude.{ℕ, ◌≡◌, true, ◌⊎◌, length, take, Ok, Err}
use mathlib.Core.List.{List, ◌++◌, Memᴰ}
use Rattle.isa.specs.declared.Technique.{Technique}
use Rattle.isa.specs.Instructions.{instr_at, is_jump, is_load}
use Rattle.machine.specs.declared.Stop.{Stop}
use Rattle.machine.specs.declared.Halt.{Halt}
use Rattle.machine.specs.Numbers.{Outcome, Number, outcome_number}
use Rattle.machine.specs.Steps.{fresh_of, step_shaped}
use Rattle.machine.specs.Runs.{run_of}
use Rattle.graph.specs.Claim.{is_successor}
use Rattle.checker.specs.Verdicts.{verdict_of}
use Rattle.integrity.specs.Calls.{Call, Config, config, Event, after_call, events_of, trace, steps_made, left_by, ending_by}

-- "a fresh state, whatever its registers, and a memory of that code with any D data words after it"
abbrev pub fresh : List ℕ → List ℕ → List ℕ → Config
fresh registers code data_words = config (fresh_of registers) (code ++ data_words)

-- "all n code words are those checked"
abbrev pub CodeSame : List ℕ → Config → Type 0
CodeSame code c = take (length code) c.memory ≡ code

-- "An accepted plain program then meets stop 4 at a jmp only" (document 02, K2); "with memory guards, every step in it that cannot
-- be made gives stop 2, or stop 3 with a load at the pc", or 5 or 6: "a program may meet these two as well" (K8)
abbrev pub StopAllowed : Technique → List ℕ → ℕ → Number → Type 0
StopAllowed Technique.Plain code pc number = number ≡ Number.Stopped 4 → is_jump (instr_at code pc) ≡ true
StopAllowed Technique.MemoryGuards code pc number =
    (number ≡ Number.Stopped 2)
    ⊎ (((number ≡ Number.Stopped 3) × (is_load (instr_at code pc) ≡ true))
    ⊎ ((number ≡ Number.Stopped 5) ⊎ (number ≡ Number.Stopped 6)))

-- what is claimed of a step tried
pub record StepHeld (t : Technique) (code edges : List ℕ) (before : Config) (outcome : Outcome) (after : Config) : Type 0 where
  -- "A step made is an edge of the graph when the pc after it is a successor of the pc before."
  pub lands_on_edge : outcome ≡ Ok tt
      → is_successor code (length code) edges before.state.pc after.state.pc ≡ true
  pub stop_allowed : (outcome ≡ Ok tt → ⊥) → StopAllowed t code before.state.pc (outcome_number outcome)
  -- "A step that cannot be made .. changes nothing"
  pub stop_changes_nothing : (outcome ≡ Ok tt → ⊥) → after ≡ before
  pub code_same : CodeSame code after

abbrev pub Held : Technique → List ℕ → List ℕ → Event → Type 0
Held t code edges (Event.Stands c) = CodeSame code c
Held t code edges (Event.Tried before outcome after) = StepHeld t code edges before outcome after

-- Code is accepted with some data words after it; then whatever is called, over the code with any data words as many after it, and
-- from whatever registers, the claim holds of each event of the trace.
abbrev pub OverAccepted : Technique → (List ℕ → List ℕ → Event → Type 0) → Type 0
OverAccepted t claim =
    (code checked edges : List ℕ) → verdict_of t (code ++ checked) (length code) edges ≡ Ok tt
    → (registers data_words : List ℕ) → length registers ≡ 32 → length data_words ≡ length checked → (calls : List Call)
    → (e : Event) → Memᴰ e (trace t (length code) calls (fresh registers code data_words)) → claim code edges e

abbrev pub Demand3 : Type 0
Demand3 = (t : Technique) → OverAccepted t (Held t)

-- the part of it that K2 asks to be shown "for every sequence of steps and bus writes": where a plain step gives stop 4, a jmp
-- stands at its pc
abbrev pub FourAtJump : List ℕ → List ℕ → Event → Type 0
FourAtJump code edges (Event.Stands c) = Unit {0}
FourAtJump code edges (Event.Tried before outcome after) =
    outcome ≡ Err (Halt.Stopped Stop.Next) → is_jump (instr_at code before.state.pc) ≡ true

abbrev pub StopFourAtJumps : Type 0
StopFourAtJumps = OverAccepted Technique.Plain FourAtJump

-- a run's answer is that of its steps in the trace
pub record RunAnswers (t : Technique) (n limit : ℕ) (c : Config) : Type 0 where
  pub count : steps_made (events_of t n (Call.Run limit) c) ≡ (run_of t n limit c.memory c.state).count
  pub left : left_by c (events_of t n (Call.Run limit) c) ≡ after_call t n (Call.Run limit) c
  pub ending : step_shaped (length c.memory) n c.state.depth ≡ true
      → ending_by (Ok tt) (events_of t n (Call.Run limit) c) ≡ (run_of t n limit c.memory c.state).ending

abbrev pub RunIsItsSteps : Type 0
RunIsItsSteps = (t : Technique) (n limit : ℕ) (c : Config) → RunAnswers t n limit c
