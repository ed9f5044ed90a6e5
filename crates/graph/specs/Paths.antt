-- Paths of the graph (document 02, K9, "a path from 0"), over any relation "q is a successor of p".
use Rattle.std.specs.Prelude.{ℕ, ◌≡◌, Bool, true, List, [], ◌∷◌, ◌++◌}

-- a list of addresses that begins at `start` and ends at the address named, each next one a successor of the one before
pub data Path (follows : ℕ → ℕ → Bool) (start : ℕ) : ℕ → List ℕ → Type 0 where
  Start : Path follows start start (start ∷ [])
  On : {p q : ℕ} {way : List ℕ} → Path follows start p way → follows p q ≡ true → Path follows start q (way ++ q ∷ [])
