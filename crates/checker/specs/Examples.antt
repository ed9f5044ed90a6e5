-- The order of the numbers (document 01, "Numbers given, in checking order", and K3 of document 02), by programs with two faults: each gets
-- the number that comes first.
use Rattle.std.specs.Prelude.{ℕ, ◌≡◌, List, [], ◌∷◌, map, Err}
use Rattle.answers.specs.declared.Refusal.{Refusal}
use Rattle.answers.specs.declared.Place.{Place}
use Rattle.answers.specs.Faults.{fault, Verdict}
use Rattle.isa.specs.declared.Instr.{Instr}
use Rattle.isa.specs.declared.Technique.{Technique}
use Rattle.isa.specs.Words.{encode_of}
use Rattle.checker.specs.Verdicts.{verdict_of}

abbrev pub plain : List Instr → ℕ → List ℕ → Verdict
plain code n edges = verdict_of Technique.Plain (map encode_of code) n edges

pub record OrderShown : Type 0 where
  -- 6 before 7: half an edge, from where no jmp is
  pub six : plain (Instr.Illegal ∷ []) 1 (0 ∷ []) ≡ Err (fault Refusal.Shape Place.Nowhere)
  -- 7 before 8: an edge from where no jmp is, to an address outside code
  pub seven : plain (Instr.Illegal ∷ []) 1 (0 ∷ 5 ∷ []) ≡ Err (fault Refusal.EdgeFromNoJump (Place.Edge 0))
  -- 8 before 18: an edge to an address outside code, and after it one that does not rise
  pub eight : plain (Instr.Jmp 5 ∷ Instr.Illegal ∷ []) 2 (0 ∷ 9 ∷ 0 ∷ 1 ∷ []) ≡ Err (fault Refusal.TargetOutsideCode (Place.Edge 0))
  -- 18 before 9: an edge that does not rise, and a jmp without one
  pub eighteen : plain (Instr.Jmp 5 ∷ Instr.Jmp 5 ∷ Instr.Illegal ∷ []) 3 (0 ∷ 2 ∷ 0 ∷ 1 ∷ []) ≡ Err (fault Refusal.EdgeNotRising (Place.Edge 1))
  -- 9 before 10: a jmp without an edge, and before it two whose sets meet and differ
  pub nine :
      plain (Instr.Jmp 5 ∷ Instr.Jmp 5 ∷ Instr.Jmp 5 ∷ Instr.Illegal ∷ []) 4 (0 ∷ 3 ∷ 1 ∷ 2 ∷ 1 ∷ 3 ∷ [])
      ≡ Err (fault Refusal.JumpWithoutEdge (Place.Address 2))
  -- 10 before 11: two sets that meet and differ, and a last word that is not illegal
  pub ten : plain (Instr.Jmp 5 ∷ Instr.Jmp 5 ∷ []) 2 (0 ∷ 0 ∷ 1 ∷ 0 ∷ 1 ∷ 1 ∷ []) ≡ Err (fault Refusal.TargetSetsOverlap (Place.Address 0))
  -- 11 before 12: the last word is a label, where no edge ends
  pub eleven : plain (Instr.Label 5 ∷ []) 1 [] ≡ Err (fault Refusal.LastWordLegal (Place.Address 0))
  -- 12 before 14: a destination without its label, and before it a jmp without its guard
  pub twelve : plain (Instr.Jmp 5 ∷ Instr.Illegal ∷ []) 2 (0 ∷ 1 ∷ []) ≡ Err (fault Refusal.LabelCondition (Place.Address 1))
  -- 13 before 14: with memory guards, a st without its guard, and before it a jmp without its own
  pub thirteen :
      verdict_of Technique.MemoryGuards (map encode_of (Instr.Jmp 5 ∷ Instr.St 5 6 0 ∷ Instr.Label 2 ∷ Instr.Illegal ∷ [])) 4 (0 ∷ 2 ∷ [])
      ≡ Err (fault Refusal.StoreUnguarded (Place.Address 1))
  -- 14 before 15: a jmp without its guard, and before it a branch out of code
  pub fourteen :
      plain (Instr.Jd 9 ∷ Instr.Jmp 5 ∷ Instr.Label 2 ∷ Instr.Illegal ∷ []) 4 (1 ∷ 2 ∷ [])
      ≡ Err (fault Refusal.JumpUnguarded (Place.Address 1))
