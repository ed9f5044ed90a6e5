-- The calls on a lent state: 162 words, r0 to r31, the pc, the depth and then the 128 places of the stack. Words after the 162nd are
-- never touched, and a state that is shorter is refused with 5.
use Rattle.std.specs.Prelude.{◌≡◌, ℕ, Bool, cond, List, ◌∷◌, ◌++◌, take, drop, slice_index, Err}
use Rattle.lists.specs.Places.{shorter, put_over}
use Rattle.answers.specs.declared.Refusal.{Refusal}
use Rattle.isa.specs.declared.Technique.{Technique}
use Rattle.machine.specs.declared.State.{State}
use Rattle.machine.specs.declared.Halt.{Halt}
use Rattle.machine.specs.declared.Ended.{Ended}
use Rattle.machine.specs.Numbers.{Outcome}
use Rattle.machine.specs.Steps.{stack_places, state_of}
use Rattle.machine.specs.Runs.{run_of, run_memory}

-- the state that the words are, and the words of a state
abbrev pub state_in : List ℕ → State
state_in words = state_of (take 32 words) (slice_index words 32) (slice_index words 33) (take stack_places (drop 34 words))

abbrev pub words_of : State → List ℕ
words_of s = s.regs ++ (s.pc ∷ s.depth ∷ s.stack)

abbrev pub state_words : ℕ
state_words = 162

-- the lent state is shorter than that
abbrev pub short_state : List ℕ → Bool
short_state words = shorter words state_words

abbrev pub ended : Outcome → ℕ → Ended
ended ending count = record { ending = ending; count = count }

-- the contract of `run_lent`: its answer r, and the words and the memory that it leaves, as `run` would of the state in the words
pub record RunsLent (t : Technique) (n limit : ℕ) (words m : List ℕ) (r : Ended) (words' m' : List ℕ) : Type 0 where
  pub answer :
      r
      ≡ cond (short_state words) (ended (Err (Halt.Refused Refusal.PlaceTooShort)) 0)
      (ended (run_of t n limit m (state_in words)).ending (run_of t n limit m (state_in words)).count)
  pub words_after : words' ≡ cond (short_state words) words (put_over (words_of (run_of t n limit m (state_in words)).state) words)
  pub memory : m' ≡ cond (short_state words) m (run_memory t n limit m (state_in words))
