-- What the checker's passes over the edges know and leave in their array. Contracts of private functions cite these; nothing that is
-- promised outside does.
use Rattle.std.specs.Prelude.{ℕ, ◌<◌, ◌≤◌, ◌≡◌, Bool, false, cond, ◌&&◌, List, length, get_or, eqb, ltb, Option, None, Some}
use Rattle.lists.specs.Search.{any}
use Rattle.graph.specs.Claim.{edge_count, jump_of, target_of, is_destination, id_of}

-- a memory that rule 6 passed
pub record Sized (memory : List ℕ) (n : ℕ) : Type 0 where
  pub some_code : 1 ≤ n
  pub code_limit : n ≤ 2048
  pub code_within : n ≤ length memory
  pub whole_limit : length memory ≤ 4096

-- a claim that rules 6 to 8 passed: every edge lies in a code of n words
pub record Within (edges : List ℕ) (n : ℕ) : Type 0 where
  pub small : n ≤ 2048
  pub few : edge_count edges ≤ 2048
  pub jumps : (k : ℕ) → k < edge_count edges → jump_of edges k < n
  pub targets : (k : ℕ) → k < edge_count edges → target_of edges k < n

-- r is the address x, in a code of n words
pub record Is (r x n : ℕ) : Type 0 where
  pub is : r ≡ x
  pub below : r < n

-- one of the first m edges goes from j to a
unfoldable pub edge_in : List ℕ → ℕ → ℕ → ℕ → Bool
edge_in edges m j a = any (λ k. eqb (jump_of edges k) j && eqb (target_of edges k) a) m

-- a claim that rule 10 passed too, and the array of owners: a destination is owned by its set's ID, any other address by n, nobody
pub record Owned (edges : List ℕ) (n : ℕ) (own : List ℕ) : Type 0 where
  pub within : Within edges n
  pub held : (k : ℕ) → k < edge_count edges → get_or own (target_of edges k) 0 ≡ id_of edges n (jump_of edges k)
  pub free : (a : ℕ) → a < n → is_destination edges a ≡ false → get_or own a 0 ≡ n

-- the ID that owns the address a, if any does
abbrev pub owner_of : ℕ → List ℕ → ℕ → Option ℕ
owner_of n own a = cond (ltb (get_or own a 0) n) (Some (get_or own a 0)) None
