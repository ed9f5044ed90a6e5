-- What only the private functions of this crate promise: an answer whose length and place are put down where there is room for them.
use Rattle.std.specs.Prelude.{ℕ, ◌≡◌, cond, List, Option, Result}
use Rattle.lists.specs.Places.{shorter}
use Rattle.answers.specs.declared.Fault.{Fault}
use Rattle.capi.specs.Checks.{answer_place, place_after}
use Rattle.manager.specs.Calls.{found_number, found_after}

pub record FoundPut (found : Result (Option ℕ) Fault) (count place : List ℕ) (r : ℕ) (count' place' : List ℕ) : Type 0 where
  pub answer : r ≡ found_number found
  pub count_after : count' ≡ cond (shorter count 1) count (found_after found count)
  pub place_after : place' ≡ place_after (answer_place found) place
