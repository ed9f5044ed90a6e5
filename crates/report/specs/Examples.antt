-- The definitions say something: reports on the post program, on two jumps that share a target set, on a call that returns, and on a
-- program without jumps.
-- `proofs/Examples.antt` has the proof.
use Rattle.std.specs.Prelude.{ℕ, ◌≡◌, List, [], ◌∷◌, ◌++◌, map, None, Some, Ok, Err}
use Rattle.answers.specs.declared.Refusal.{Refusal}
use Rattle.answers.specs.declared.Place.{Place}
use Rattle.answers.specs.Faults.{fault}
use Rattle.isa.specs.declared.Instr.{Instr}
use Rattle.isa.specs.declared.Technique.{Technique}
use Rattle.isa.specs.Words.{encode_of}
use Rattle.isa.specs.PostProgram.{post_code, post_edges}
use Rattle.report.specs.declared.Figures.{Figures}
use Rattle.report.specs.Figures.{freedom}
use Rattle.report.specs.Reports.{report_of}

-- one label, one addi, two movi, two bgt, one jmp, one ld, one illegal word; one set of one target; 1 of 9
abbrev pub post_figures : Figures
post_figures =
    record {
      kinds = 1 ∷ 0 ∷ 1 ∷ 2 ∷ 2 ∷ 0 ∷ 1 ∷ 1 ∷ 0 ∷ 0 ∷ 0 ∷ 1 ∷ [];
      sets = 1;
      largest = 1;
      freedom = Some (freedom 1 9);
    }

-- two guarded jumps, at 5 and 11, to the one label at 12
abbrev pub shared_code : List ℕ
shared_code =
    map encode_of
    (Instr.Addi 0 5 0 ∷ Instr.Ld 1 0 0 ∷ Instr.Movi 2 12 ∷ Instr.Bgt 1 2 13 ∷ Instr.Bgt 2 1 13 ∷ Instr.Jmp 0
    ∷ Instr.Addi 0 6 0 ∷ Instr.Ld 1 0 0 ∷ Instr.Movi 2 12 ∷ Instr.Bgt 1 2 13 ∷ Instr.Bgt 2 1 13 ∷ Instr.Jmp 0
    ∷ Instr.Label 12 ∷ Instr.Illegal ∷ [])

-- one set of one target for both; two edges of two times fourteen
abbrev pub shared_figures : Figures
shared_figures =
    record {
      kinds = 1 ∷ 0 ∷ 2 ∷ 2 ∷ 4 ∷ 0 ∷ 2 ∷ 2 ∷ 0 ∷ 0 ∷ 0 ∷ 1 ∷ [];
      sets = 1;
      largest = 1;
      freedom = Some (freedom 2 28);
    }

-- a call of the ret at 2, which returns to the illegal word at 1
abbrev pub returning_code : List ℕ
returning_code = map encode_of (Instr.Call 2 ∷ Instr.Illegal ∷ Instr.Ret ∷ Instr.Illegal ∷ [])

-- one call and one ret after the other kinds, and two illegal words last
abbrev pub returning_figures : Figures
returning_figures =
    record {
      kinds = 0 ∷ 0 ∷ 0 ∷ 0 ∷ 0 ∷ 0 ∷ 0 ∷ 0 ∷ 0 ∷ 1 ∷ 1 ∷ 2 ∷ [];
      sets = 0;
      largest = 0;
      freedom = None;
    }

-- one illegal word
abbrev pub halt_figures : Figures
halt_figures =
    record {
      kinds = 0 ∷ 0 ∷ 0 ∷ 0 ∷ 0 ∷ 0 ∷ 0 ∷ 0 ∷ 0 ∷ 0 ∷ 0 ∷ 1 ∷ [];
      sets = 0;
      largest = 0;
      freedom = None;
    }

pub record ReportsShown : Type 0 where
  pub post : report_of Technique.Plain post_code 9 post_edges ≡ Ok post_figures
  -- its edge listed twice: 18 at edge 1
  pub repeated : report_of Technique.Plain post_code 9 (post_edges ++ post_edges) ≡ Err (fault Refusal.EdgeNotRising (Place.Edge 1))
  -- equal sets counted once
  pub shared : report_of Technique.Plain shared_code 14 (5 ∷ 12 ∷ 11 ∷ 12 ∷ []) ≡ Ok shared_figures
  -- the same graph in another sequence: 18 at edge 1
  pub turned : report_of Technique.Plain shared_code 14 (11 ∷ 12 ∷ 5 ∷ 12 ∷ []) ≡ Err (fault Refusal.EdgeNotRising (Place.Edge 1))
  -- the post program with memory guards is refused: 14 at 6
  pub refused : report_of Technique.MemoryGuards post_code 9 post_edges ≡ Err (fault Refusal.JumpUnguarded (Place.Address 6))
  -- no jumps, with call and ret and without
  pub returning : report_of Technique.Plain returning_code 4 [] ≡ Ok returning_figures
  pub halt : report_of Technique.Plain (0xffffffffffffffff ∷ []) 1 [] ≡ Ok halt_figures
