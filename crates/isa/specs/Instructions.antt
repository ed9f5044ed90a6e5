-- What the papers ask of an instruction, by its kind and its fields.
use Rattle.std.specs.Prelude.{ℕ, Bool, cond, ◌||◌, List, get_or, Option, None, Some}
use Rattle.isa.specs.declared.Kind.{Kind}
use Rattle.isa.specs.declared.Instr.{Instr}
use Rattle.isa.specs.Words.{same_kind, fields_of, decode_of}

-- the instruction that the word at an address is
abbrev pub instr_at : List ℕ → ℕ → Instr
instr_at memory a = decode_of (get_or memory a 0)

-- an instruction of this kind
abbrev pub is_kind : Kind → Instr → Bool
is_kind kind i = same_kind kind (fields_of i).kind

-- the word is illegal: of no kind of the table
abbrev pub is_illegal : Instr → Bool
is_illegal i = is_kind Kind.Unknown i

-- a computed jump
abbrev pub is_jump : Instr → Bool
is_jump i = is_kind Kind.Jmp i

-- a call, and a return from one
abbrev pub is_call : Instr → Bool
is_call i = is_kind Kind.Call i

abbrev pub is_ret : Instr → Bool
is_ret i = is_kind Kind.Ret i

-- a store
abbrev pub is_store : Instr → Bool
is_store i = is_kind Kind.St i

-- a load, wherever the papers speak of loads
abbrev pub is_load : Instr → Bool
is_load i = is_kind Kind.Ld i

-- a word with a branch target, its w
abbrev pub is_branch : Instr → Bool
is_branch i = is_kind Kind.Bgt i || (is_kind Kind.Jd i || is_call i)

-- the number of a label
abbrev pub label_number : Instr → Option ℕ
label_number i = cond (is_kind Kind.Label i) (Some (fields_of i).w) None

-- the target of a bgt, a jd or a call
abbrev pub branch_target : Instr → Option ℕ
branch_target i = cond (is_branch i) (Some (fields_of i).w) None
