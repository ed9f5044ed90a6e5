-- What only the private functions of this crate promise: an answer whose counts and place are put down where there is room for them.
use Rattle.std.specs.Prelude.{ℕ, ◌≡◌, cond, List}
use Rattle.lists.specs.Places.{shorter}
use Rattle.rewrite.specs.Answers.{Answer}
use Rattle.capi.specs.Checks.{place_after}
use Rattle.installer.specs.Calls.{rewritten_number, rewritten_place, counts_after}

pub record RewrittenPut (rewritten : Answer) (counts place : List ℕ) (r : ℕ) (counts' place' : List ℕ) : Type 0 where
  pub answer : r ≡ rewritten_number rewritten
  pub counts_after : counts' ≡ cond (shorter counts 2) counts (counts_after rewritten counts)
  pub place_after : place' ≡ place_after (rewritten_place rewritten) place
