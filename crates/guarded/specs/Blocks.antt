-- Blocks of numbers laid one after the other, and where each begins.
use Rattle.std.specs.Prelude.{ℕ, zero, suc, ◌+◌, List, [], ◌++◌}

-- the sizes of the blocks before a, added up
unfoldable pub start_of : (ℕ → ℕ) → ℕ → ℕ
start_of size zero = 0
start_of size (suc a) = start_of size a + size a

-- the first m blocks
unfoldable pub laid : (ℕ → List ℕ) → ℕ → List ℕ
laid block zero = []
laid block (suc m) = laid block m ++ block m
