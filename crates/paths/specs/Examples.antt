-- The definitions say something: a program with two equally short ways to an address, and an address that nothing leads to.
-- `proofs/Examples.antt` has the proof.
use Rattle.std.specs.Prelude.{ℕ, ◌≡◌, List, [], ◌∷◌, map, None, Some, Ok, Err}
use Rattle.answers.specs.declared.Refusal.{Refusal}
use Rattle.answers.specs.declared.Place.{Place}
use Rattle.answers.specs.Faults.{fault}
use Rattle.isa.specs.declared.Instr.{Instr}
use Rattle.isa.specs.declared.Technique.{Technique}
use Rattle.isa.specs.Words.{encode_of}
use Rattle.checker.specs.Verdicts.{verdict_of}
use Rattle.paths.specs.Shortest.{Route, Shortest}

-- the branch at 0 goes on to 1 or to 2, and both go to 3
abbrev pub two_ways : List ℕ
two_ways = map encode_of (Instr.Bgt 4 5 2 ∷ Instr.Jd 3 ∷ Instr.Jd 3 ∷ Instr.Illegal ∷ Instr.Illegal ∷ [])

abbrev pub Answered : ℕ → ℕ → Route → Type 0
Answered address room route = Shortest Technique.Plain two_ways 5 [] address room route

pub record PathsShown : Type 0 where
  pub accepted : verdict_of Technique.Plain two_ways 5 [] ≡ Ok tt
  -- of the two ways to 3 the one over 1, which takes a place of three addresses
  pub lower : Answered 3 3 (Ok (Some (0 ∷ 1 ∷ 3 ∷ [])))
  pub too_short : Answered 3 2 (Err (fault Refusal.PlaceTooShort Place.Nowhere))
  -- nothing leads to 4, and that takes no room
  pub unreachable : Answered 4 0 (Ok None)
  pub outside : Answered 5 5 (Err (fault Refusal.OutsideCode Place.Nowhere))
