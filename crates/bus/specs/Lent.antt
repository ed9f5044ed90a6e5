-- The bus write to a register on a lent state, as `machine` takes it: 162 words. Words after the 162nd are never touched, and a state
-- that is shorter is refused with 5.
use Rattle.std.specs.Prelude.{ℕ, ◌≡◌, cond, List, Err}
use Rattle.lists.specs.Places.{put_over}
use Rattle.answers.specs.declared.Refusal.{Refusal}
use Rattle.machine.specs.Lent.{state_in, words_of, short_state}
use Rattle.bus.specs.Numbers.{Written}
use Rattle.bus.specs.Bus.{write_register_of}

-- the contract of `write_register_lent`: its answer r, and the words that it leaves
pub record WritesRegisterLent (words : List ℕ) (register word : ℕ) (r : Written) (words' : List ℕ) : Type 0 where
  pub answer :
      r
      ≡ cond (short_state words) (Err Refusal.PlaceTooShort)
      (write_register_of (state_in words) register word).answer
  pub words_after :
      words' ≡ cond (short_state words) words (put_over (words_of (write_register_of (state_in words) register word).state) words)
