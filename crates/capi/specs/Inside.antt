-- What only the private functions of this crate promise each other: a run whose numbers all go in registers.
use Rattle.std.specs.Prelude.{ℕ, ◌/◌, ◌%◌, ◌^◌, ◌≡◌, List}
use Rattle.machine.specs.declared.Ended.{Ended}
use Rattle.machine.specs.Lent.{RunsLent}
use Rattle.capi.specs.States.{technique_of, outcome_answer}

-- a technique's number and a limit in one number
pub record Ordered (technique limit r : ℕ) : Type 0 where
  pub technique_low : r % 256 ≡ technique
  pub limit_high : r / 256 % 65536 ≡ limit

-- the run by such a number, and its answer and its count in one number
pub record RunNumber (order n : ℕ) (state memory : List ℕ) (r : ℕ) (state' memory' : List ℕ) : Type 0 where
  pub ended : Ended
  pub ran : RunsLent (technique_of (order % 256)) n (order / 256 % 65536) state memory ended state' memory'
  pub answer_low : r % 2 ^ 32 ≡ outcome_answer ended.ending
  pub count_high : r / 2 ^ 32 ≡ ended.count
