-- What passes over a program leave in their fixed arrays of 16-bit numbers. Contracts of private functions cite these; nothing
-- that is promised outside does.
use Rattle.std.specs.Prelude.{ℕ, ◌<◌, ◌≡◌, List, length, get_or}
unfoldable pub use Rattle.lists.specs.Search.{bit, count}

-- an array of 2,048 numbers whose first n are those of `value`
pub record Table (xs : List ℕ) (n : ℕ) (value : ℕ → ℕ) : Type 0 where
  pub size : length xs ≡ 2048
  pub each : (j : ℕ) → j < n → get_or xs j 0 ≡ value j
