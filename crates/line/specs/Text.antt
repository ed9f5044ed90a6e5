-- Text in ASCII: a number in decimal, and text put into a lent place.
use Rattle.std.specs.Prelude.{ℕ, ◌+◌, ◌≡◌, List, length}
use Rattle.std.specs.Fmt.{decimal}
use Rattle.std.proofs.lemmas.List.Edits.{sets}

-- the digits of a number, highest first
abbrev pub decimal_of : ℕ → List ℕ
decimal_of x = decimal x

-- the text stands from `at` on in what was `before`, nothing else changed, and `next` is the place after it
pub record Puts (text before : List ℕ) (at next : ℕ) (after : List ℕ) : Type 0 where
  pub ends : next ≡ at + length text
  pub bytes : after ≡ sets before at text
