-- What the header says of a rewriting that is refused: it changes nothing, but for the place of the refusal itself. `proofs/Unchanged.antt`
-- has the proof.
use Rattle.std.specs.Prelude.{ℕ, ◌≡◌, List}
use Rattle.installer.specs.Calls.{RewriteCall}

pub record RefusedRewritingChangesNothing : Type 0 where
  pub rewrite :
      (memory : List ℕ) (n : ℕ) (edges code new_edges entries counts place : List ℕ) (r : ℕ) (code' new_edges' entries' counts' place' : List ℕ)
      → RewriteCall memory n edges code new_edges entries counts place r code' new_edges' entries' counts' place' → (r ≡ 0 → ⊥)
      → (code' ≡ code) × (new_edges' ≡ new_edges) × (entries' ≡ entries) × (counts' ≡ counts)
