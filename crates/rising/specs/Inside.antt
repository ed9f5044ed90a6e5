-- What only the private functions of this crate promise: an edge's two numbers as one. Both numbers are below b, which is 2 ^ 16 in the
-- first parcel edition and 2 ^ 32 in the second.
use Rattle.std.specs.Prelude.{ℕ, ◌+◌, ◌*◌, ◌<◌, ◌≡◌, List}
use Rattle.graph.specs.Claim.{jump_of, target_of}

-- the jump address counts first, then the target
abbrev pub rank_of : ℕ → List ℕ → ℕ → ℕ
rank_of b edges k = jump_of edges k * b + target_of edges k

pub record IsRank (b r : ℕ) (edges : List ℕ) (k : ℕ) : Type 0 where
  pub is : r ≡ rank_of b edges k
  pub narrow : target_of edges k < b
