-- What is proved of the answer. `proofs/Answers.antt` has the proofs.
use Rattle.std.specs.Prelude.{ℕ, ◌≡◌, ◌≤◌, List, [], ◌∷◌, Some, Ok}
use Rattle.isa.specs.declared.Technique.{Technique}
use Rattle.checker.specs.Verdicts.{verdict_of}
use Rattle.paths.specs.Shortest.{Route, Shortest}

-- the paths of the graph determine the answer, and the path itself
abbrev pub OneAnswer : Type 0
OneAnswer =
    (t : Technique) (memory : List ℕ) (n : ℕ) (edges : List ℕ) (address room : ℕ) (a b : Route)
    → Shortest t memory n edges address room a → Shortest t memory n edges address room b → a ≡ b

-- the path from 0 to 0 is 0 alone
abbrev pub StartAlone : Type 0
StartAlone =
    (t : Technique) (memory : List ℕ) (n : ℕ) (edges : List ℕ) (room : ℕ) → verdict_of t memory n edges ≡ Ok tt → 1 ≤ room
    → Shortest t memory n edges 0 room (Ok (Some (0 ∷ [])))
