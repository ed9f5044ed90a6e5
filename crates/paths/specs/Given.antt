-- What the search is given, which only the private functions of this crate promise each other.
use Rattle.std.specs.Prelude.{ℕ, ◌<◌, ◌≡◌, true, false, List, get_or}
use Rattle.isa.specs.Instructions.{instr_at, is_jump}
use Rattle.graph.specs.Claim.{edge_count, jump_of, has_edge}
use Rattle.graph.specs.Passes.{Sized, Within}
use Rattle.rising.specs.Rising.{not_rising}
use Rattle.checker.specs.Passes.{is_first}

-- what the search needs of an accepted program
pub record Searchable (memory : List ℕ) (n : ℕ) (edges : List ℕ) : Type 0 where
  pub sized : Sized memory n
  pub within : Within edges n
  pub rising : (k : ℕ) → k < edge_count edges → not_rising edges k ≡ false
  -- a jmp has an edge
  pub leaving : (a : ℕ) → a < n → is_jump (instr_at memory a) ≡ true → has_edge edges a ≡ true

-- edge k is the first of the jump at j
pub record FirstOf (edges : List ℕ) (j k : ℕ) : Type 0 where
  pub within : k < edge_count edges
  pub jump : jump_of edges k ≡ j
  pub first : is_first edges k ≡ true

-- an array with the first edge of each jump
abbrev pub Firsts : List ℕ → List ℕ → Type 0
Firsts edges firsts = (k : ℕ) → k < edge_count edges → FirstOf edges (jump_of edges k) (get_or firsts (jump_of edges k) 0)
