-- The post program of document 01, "The post program and its table".
use Rattle.std.specs.Prelude.{ℕ, List, [], ◌∷◌}
use Rattle.isa.specs.declared.Instr.{Instr}
use Rattle.isa.specs.Words.{encode_of}

-- "Addresses 0 to 8: movi r5, 7; addi r0, r5, 0; ld r1, r0(0); movi r2, 7; bgt r1, r2, 8; bgt r2, r1, 8; jmp r0; label 7; illegal."
abbrev pub post_code : List ℕ
post_code =
    encode_of (Instr.Movi 5 7)
    ∷ encode_of (Instr.Addi 0 5 0)
    ∷ encode_of (Instr.Ld 1 0 0)
    ∷ encode_of (Instr.Movi 2 7)
    ∷ encode_of (Instr.Bgt 1 2 8)
    ∷ encode_of (Instr.Bgt 2 1 8)
    ∷ encode_of (Instr.Jmp 0)
    ∷ encode_of (Instr.Label 7)
    ∷ encode_of Instr.Illegal
    ∷ []

-- "Edge (6, 7), no data."
abbrev pub post_edges : List ℕ
post_edges = 6 ∷ 7 ∷ []
