-- Guard sequences as data, and where one stands in memory (document 01, "Conditions"; 000, 4.1 and 5.1).
use Rattle.std.specs.Prelude.{ℕ, suc, ◌+◌, ◌-◌, Bool, true, false, ◌&&◌, ◌||◌, List, [], ◌∷◌, length, eqb, leb}
use Rattle.isa.specs.declared.Instr.{Instr}
use Rattle.isa.specs.declared.Fields.{Fields}
use Rattle.isa.specs.declared.Technique.{Technique}
use Rattle.isa.specs.Words.{same_kind, fields_of}
use Rattle.isa.specs.Instructions.{instr_at}
use Rattle.guards.specs.declared.Slot.{Slot}
use Rattle.guards.specs.declared.Free.{Free}

-- what is free: field b, and w
abbrev pub any_register_of : Free → Bool
any_register_of Free.Nothing = false
any_register_of Free.Register = true
any_register_of Free.RegisterAndImmediate = true

abbrev pub any_immediate_of : Free → Bool
any_immediate_of Free.Nothing = false
any_immediate_of Free.Register = false
any_immediate_of Free.RegisterAndImmediate = true

-- the instruction itself; with any register in field b; with any register there and any w
abbrev pub just : Instr → Slot
just i = record { instr = i; free = Free.Nothing }

abbrev pub any_register_in : Instr → Slot
any_register_in i = record { instr = i; free = Free.Register }

abbrev pub any_register_and_immediate : Instr → Slot
any_register_and_immediate i = record { instr = i; free = Free.RegisterAndImmediate }

-- the test that the word at r0 is the label of the target set: "ld r1, r0(0); movi r2, ID; bgt r1, r2, HALT; bgt r2, r1, HALT"
abbrev pub label_test : ℕ → ℕ → List Slot → List Slot
label_test n id rest =
    just (Instr.Ld 1 0 0)
    ∷ just (Instr.Movi 2 id)
    ∷ just (Instr.Bgt 1 2 (n - 1))
    ∷ just (Instr.Bgt 2 1 (n - 1))
    ∷ rest

-- the test that r0 is from low to high: "movi r1, high; movi r2, low; bgt r0, r1, HALT; bgt r2, r0, HALT"
abbrev pub range_test : ℕ → ℕ → ℕ → List Slot → List Slot
range_test n high low rest =
    just (Instr.Movi 1 high)
    ∷ just (Instr.Movi 2 low)
    ∷ just (Instr.Bgt 0 1 (n - 1))
    ∷ just (Instr.Bgt 2 0 (n - 1))
    ∷ rest

-- "each jmp is jmp r0, directly after addi r0, rs, 0; ..", the jmp last
abbrev pub jump_guard : Technique → ℕ → ℕ → List Slot
jump_guard Technique.Plain n id = any_register_in (Instr.Addi 0 0 0) ∷ label_test n id (just (Instr.Jmp 0) ∷ [])
jump_guard Technique.MemoryGuards n id =
    any_register_in (Instr.Addi 0 0 0) ∷ range_test n (n - 1) 0 (label_test n id (just (Instr.Jmp 0) ∷ []))

-- "each st is st r0(0), rs after addi r0, rd, w; movi r1, n+D-1; movi r2, n; ..", the st last; len is n+D
abbrev pub store_guard : ℕ → ℕ → List Slot
store_guard n len = any_register_and_immediate (Instr.Addi 0 0 0) ∷ range_test n (len - 1) n (any_register_in (Instr.St 0 0 0) ∷ [])

-- the fields are the same, but for what is free
abbrev pub fields_agree : Fields → Fields → Bool → Bool → Bool
fields_agree p f any_b any_w =
    same_kind p.kind f.kind
    && (eqb p.a f.a && ((any_b || eqb p.b f.b) && (eqb p.c f.c && (any_w || eqb p.w f.w))))

-- the instruction is the slot's, but for what the slot leaves free
unfoldable pub fits : Slot → Instr → Bool
fits s i = fields_agree (fields_of s.instr) (fields_of i) (any_register_of s.free) (any_immediate_of s.free)

-- the sequence stands in memory from address b on
unfoldable pub stands_at : List ℕ → ℕ → List Slot → Bool
stands_at memory b [] = true
stands_at memory b (s ∷ slots) = fits s (instr_at memory b) && stands_at memory (suc b) slots

-- the sequence stands in memory with its last word at address a
unfoldable pub ends_at : List ℕ → List Slot → ℕ → Bool
ends_at memory slots a = leb (length slots) (a + 1) && stands_at memory (a + 1 - length slots) slots
