-- Places that a caller lends: lists of numbers.
use Rattle.std.specs.Prelude.{ℕ, Bool, List, ◌++◌, length, drop, ltb}

-- the place has fewer than k numbers
abbrev pub shorter : List ℕ → ℕ → Bool
shorter place k = ltb (length place) k

-- old with its front replaced by new: nothing is touched past what is put there
abbrev pub put_over : List ℕ → List ℕ → List ℕ
put_over new old = new ++ drop (length new) old
