-- The sequence of edges (document 02, K3): "Edges must rise by jump address, then by target, without repeats."
use Rattle.std.specs.Prelude.{ℕ, ◌-◌, ◌≤◌, ◌<◌, ◌≡◌, ◌⊎◌, Bool, not, ◌&&◌, ◌||◌, List, ltb, eqb}
use Rattle.lists.specs.Search.{lowest}
use Rattle.graph.specs.Claim.{edge_count, jump_of, target_of}

-- edge k is above edge i "by jump address, then by target"
abbrev pub is_above : List ℕ → ℕ → ℕ → Bool
is_above edges i k =
    ltb (jump_of edges i) (jump_of edges k)
    || (eqb (jump_of edges i) (jump_of edges k) && ltb (target_of edges i) (target_of edges k))

-- 18. An "edge that doesn't rise": it is not above the edge before it; edge 0 has none before it.
abbrev pub not_rising : List ℕ → ℕ → Bool
not_rising edges k = ltb 0 k && not (is_above edges (k - 1) k)

-- the first of them, or the number of edges where every edge rises
abbrev pub first_not_rising : List ℕ → ℕ
first_not_rising edges = lowest (not_rising edges) (edge_count edges)

-- the same in propositions: edge k is above edge i
abbrev pub Above : List ℕ → ℕ → ℕ → Type 0
Above edges i k =
    (jump_of edges i < jump_of edges k)
    ⊎ ((jump_of edges i ≡ jump_of edges k) × (target_of edges i < target_of edges k))

-- "Edges .. rise": of any two, the later is above
abbrev pub Rising : List ℕ → Type 0
Rising edges = (i k : ℕ) → i < k → k < edge_count edges → Above edges i k

-- "the first edge that doesn't rise" is edge k
pub record FirstNotRising (edges : List ℕ) (k : ℕ) : Type 0 where
  pub within : k < edge_count edges
  pub not_first : 1 ≤ k
  pub not_above : Above edges (k - 1) k → ⊥
  pub rise_before : (i : ℕ) → 1 ≤ i → i < k → Above edges (i - 1) i
