-- The rewriter's definitions on three programs, by computation.
use Rattle.std.specs.Prelude.{ℕ, ◌≡◌, List, [], ◌∷◌, map, Ok}
use Rattle.isa.specs.declared.Instr.{Instr}
use Rattle.isa.specs.declared.Technique.{Technique}
use Rattle.isa.specs.Words.{encode_of}
use Rattle.guarded.specs.Rewrite.{Guarded, rewrite_of}
use Rattle.guarded.specs.Rules.{bare_verdict_of}

-- the post program without its guard and its label: the jmp at 1 goes to the word at 2
abbrev pub bare : List ℕ
bare = map encode_of (Instr.Movi 5 7 ∷ Instr.Jmp 5 ∷ Instr.Illegal ∷ [])

abbrev pub edges : List ℕ
edges = 1 ∷ 2 ∷ []

-- the new HALT is 9, since the bare program's own illegal word stays, behind the label of 2
abbrev pub post : Guarded
post =
    record {
      code =
          map encode_of
          (Instr.Movi 5 7
          ∷ Instr.Addi 0 5 0
          ∷ Instr.Ld 1 0 0
          ∷ Instr.Movi 2 7
          ∷ Instr.Bgt 1 2 9
          ∷ Instr.Bgt 2 1 9
          ∷ Instr.Jmp 0
          ∷ Instr.Label 7
          ∷ Instr.Illegal
          ∷ Instr.Illegal
          ∷ []);
      edges = 6 ∷ 7 ∷ [];
      entries = 0 ∷ 1 ∷ 7 ∷ [];
    }

-- a store with a displacement, a branch to it, and a jmp whose set is 0 and 2
abbrev pub bare_store : List ℕ
bare_store = map encode_of (Instr.St 5 6 3 ∷ Instr.Bgt 7 8 0 ∷ Instr.Jd 3 ∷ Instr.Jmp 5 ∷ [])

abbrev pub store_edges : List ℕ
store_edges = 3 ∷ 0 ∷ 3 ∷ 2 ∷ []

-- plain, the store is a word like any other
abbrev pub plain : Guarded
plain =
    record {
      code =
          map encode_of
          (Instr.Label 0
          ∷ Instr.St 5 6 3
          ∷ Instr.Bgt 7 8 0
          ∷ Instr.Label 0
          ∷ Instr.Jd 5
          ∷ Instr.Addi 0 5 0
          ∷ Instr.Ld 1 0 0
          ∷ Instr.Movi 2 0
          ∷ Instr.Bgt 1 2 11
          ∷ Instr.Bgt 2 1 11
          ∷ Instr.Jmp 0
          ∷ Instr.Illegal
          ∷ []);
      edges = 10 ∷ 0 ∷ 10 ∷ 3 ∷ [];
      entries = 0 ∷ 2 ∷ 3 ∷ 5 ∷ [];
    }

-- with memory guards and one data word
abbrev pub guarded : Guarded
guarded =
    record {
      code =
          map encode_of
          (Instr.Label 0
          ∷ Instr.Addi 0 5 3
          ∷ Instr.Movi 1 21
          ∷ Instr.Movi 2 21
          ∷ Instr.Bgt 0 1 20
          ∷ Instr.Bgt 2 0 20
          ∷ Instr.St 0 6 0
          ∷ Instr.Bgt 7 8 0
          ∷ Instr.Label 0
          ∷ Instr.Jd 10
          ∷ Instr.Addi 0 5 0
          ∷ Instr.Movi 1 20
          ∷ Instr.Movi 2 0
          ∷ Instr.Bgt 0 1 20
          ∷ Instr.Bgt 2 0 20
          ∷ Instr.Ld 1 0 0
          ∷ Instr.Movi 2 0
          ∷ Instr.Bgt 1 2 20
          ∷ Instr.Bgt 2 1 20
          ∷ Instr.Jmp 0
          ∷ Instr.Illegal
          ∷ []);
      edges = 19 ∷ 0 ∷ 19 ∷ 8 ∷ [];
      entries = 0 ∷ 7 ∷ 8 ∷ 10 ∷ [];
    }

-- a call of the ret at 3, which comes back to the jmp at 1, and so to the first word of its guard
abbrev pub bare_call : List ℕ
bare_call = map encode_of (Instr.Call 3 ∷ Instr.Jmp 5 ∷ Instr.Illegal ∷ Instr.Ret ∷ [])

abbrev pub call_edges : List ℕ
call_edges = 1 ∷ 2 ∷ []

-- the call has the new address of the ret, which is kept
abbrev pub called : Guarded
called =
    record {
      code =
          map encode_of
          (Instr.Call 9
          ∷ Instr.Addi 0 5 0
          ∷ Instr.Ld 1 0 0
          ∷ Instr.Movi 2 7
          ∷ Instr.Bgt 1 2 10
          ∷ Instr.Bgt 2 1 10
          ∷ Instr.Jmp 0
          ∷ Instr.Label 7
          ∷ Instr.Illegal
          ∷ Instr.Ret
          ∷ Instr.Illegal
          ∷ []);
      edges = 6 ∷ 7 ∷ [];
      entries = 0 ∷ 1 ∷ 7 ∷ 9 ∷ [];
    }

pub record RewritesShown : Type 0 where
  pub post_rewritten : rewrite_of Technique.Plain bare 3 edges 0 ≡ post
  pub plain_rewritten : rewrite_of Technique.Plain bare_store 4 store_edges 1 ≡ plain
  pub guarded_rewritten : rewrite_of Technique.MemoryGuards bare_store 4 store_edges 1 ≡ guarded
  pub call_rewritten : rewrite_of Technique.Plain bare_call 4 call_edges 0 ≡ called
  -- and all may be rewritten, so the theorems speak of them
  pub post_passes : bare_verdict_of Technique.Plain bare 3 edges ≡ Ok tt
  pub store_passes : bare_verdict_of Technique.Plain bare_store 4 store_edges ≡ Ok tt
  pub call_passes : bare_verdict_of Technique.Plain bare_call 4 call_edges ≡ Ok tt
