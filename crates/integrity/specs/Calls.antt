-- Lists of calls (document 01, "Lists of calls"): what each call leaves, by the very definitions that the contracts of `step`,
-- `run`, `write_data` and `write_register` cite, and the trace of a list.
use Rattle.std.specs.Prelude.{ℕ, zero, suc, cond, List, [], ◌∷◌, ◌++◌, length}
use Rattle.isa.specs.declared.Technique.{Technique}
use Rattle.machine.specs.declared.State.{State}
use Rattle.machine.specs.Numbers.{Outcome}
use Rattle.machine.specs.Steps.{step_shaped, step_of, step_memory}
use Rattle.machine.specs.Runs.{if_made, run_of, run_memory}
use Rattle.bus.specs.Bus.{write_data_memory, write_register_of}

-- "steps of that technique, runs by such steps with any limit, and bus writes to a data word or a register, with any address,
-- register number and word"
pub data Call : Type 0 where
  Step : Call
  Run : (limit : ℕ) → Call
  WriteData : (address word : ℕ) → Call
  WriteRegister : (register word : ℕ) → Call

-- what a call gets and leaves
pub record Config : Type 0 where
  pub state : State
  pub memory : List ℕ

abbrev pub config : State → List ℕ → Config
config state memory = record { state = state; memory = memory }

-- what a list of calls shows: where the machine stands, and each step tried, with what was there before, its outcome, and what it left
pub data Event : Type 0 where
  Stands : Config → Event
  Tried : (before : Config) (outcome : Outcome) (after : Config) → Event

module _ (t : Technique) (n : ℕ) where
  abbrev pub outcome_at : Config → Outcome
  outcome_at c = (step_of t n c.memory c.state).outcome

  abbrev pub after_step : Config → Config
  after_step c = config (step_of t n c.memory c.state).state (step_memory t n c.memory c.state)

  -- "Each call gets the state and memory that the one before returned or left, and the same n"
  abbrev pub after_call : Call → Config → Config
  after_call Call.Step c = after_step c
  after_call (Call.Run limit) c =
      config (run_of t n limit c.memory c.state).state (run_memory t n limit c.memory c.state)
  after_call (Call.WriteData address word) c = config c.state (write_data_memory n c.memory address word)
  after_call (Call.WriteRegister register word) c = config (write_register_of c.state register word).state c.memory

  abbrev pub tried_at : Config → Event
  tried_at c = Event.Tried c (outcome_at c) (after_step c)

  -- at most k steps, one by one, and the one that could not be made
  abbrev pub steps_of : ℕ → Config → List Event
  steps_of zero c = []
  steps_of (suc k) c = tried_at c ∷ if_made (outcome_at c) (steps_of k (after_step c)) []

  -- "A run stands for its steps one by one, and for the one it could not make where it answers a stop"; refused with 6 it tries none
  abbrev pub events_of : Call → Config → List Event
  events_of Call.Step c = tried_at c ∷ []
  events_of (Call.Run limit) c = cond (step_shaped (length c.memory) n c.state.depth) (steps_of limit c) []
  events_of (Call.WriteData address word) c = []
  events_of (Call.WriteRegister register word) c = []

  -- where the machine stands before each call and at the end, and each step tried
  abbrev pub trace : List Call → Config → List Event
  trace [] c = Event.Stands c ∷ []
  trace (call ∷ calls) c = Event.Stands c ∷ (events_of call c ++ trace calls (after_call call c))

  -- what the list leaves
  abbrev pub after_all : List Call → Config → Config
  after_all [] c = c
  after_all (call ∷ calls) c = after_all calls (after_call call c)

-- how many steps were made, where the last one tried led, and what a run answers that ends with it
abbrev pub steps_made : List Event → ℕ
steps_made [] = 0
steps_made (Event.Stands c ∷ events) = steps_made events
steps_made (Event.Tried before outcome after ∷ events) = if_made outcome (suc (steps_made events)) (steps_made events)

abbrev pub left_by : Config → List Event → Config
left_by c [] = c
left_by c (Event.Stands d ∷ events) = left_by c events
left_by c (Event.Tried before outcome after ∷ events) = left_by after events

abbrev pub ending_by : Outcome → List Event → Outcome
ending_by ending [] = ending
ending_by ending (Event.Stands d ∷ events) = ending_by ending events
ending_by ending (Event.Tried before outcome after ∷ events) = ending_by outcome events
