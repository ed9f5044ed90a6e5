-- What is proved of verdicts. `proofs/Equivalence.antt` has the proof.
use Rattle.std.specs.Prelude.{ℕ, ◌≡◌, List, Ok}
use Rattle.isa.specs.declared.Technique.{Technique}
use Rattle.checker.specs.Verdicts.{verdict_of}
use Rattle.checker.specs.Conditions.{Conditions}

-- The rules accept exactly what the published conditions accept, for both techniques, with the clause of K2 for plain code and that of
-- K3 on the sequence of edges; words and edge numbers are any.
pub record AcceptedExactly : Type 0 where
  pub sound : (t : Technique) (memory : List ℕ) (n : ℕ) (edges : List ℕ)
      → verdict_of t memory n edges ≡ Ok tt → Conditions t memory n edges
  pub complete : (t : Technique) (memory : List ℕ) (n : ℕ) (edges : List ℕ)
      → Conditions t memory n edges → verdict_of t memory n edges ≡ Ok tt
