-- What is proved of the line besides the contracts. `proofs/Theorems.antt` has the proof.
use Rattle.std.specs.Prelude.{ℕ, ◌≤◌, ◌≡◌, List, length, take}
use Rattle.line.specs.Line.{verdict_line}

-- no parcel is longer than 40,972 bytes, so a longer input has the line of its first 40,973 bytes, or of any more of them
abbrev pub PrefixSuffices : Type 0
PrefixSuffices = (bytes : List ℕ) (k : ℕ) → 40973 ≤ k → k ≤ length bytes → verdict_line (take k bytes) ≡ verdict_line bytes
