-- What only the private functions of this crate promise each other: 20 and 21 asked of a word at once, by its kind and its bytes; and 22.
use Rattle.std.specs.Prelude.{ℕ, ◌/◌, ◌%◌, ◌^◌, Bool, true, false, ◌||◌, cond, ltb, Result, Ok, Err}
use Rattle.answers.specs.declared.Refusal.{Refusal}
use Rattle.answers.specs.declared.Place.{Place}
use Rattle.answers.specs.declared.Fault.{Fault}
use Rattle.answers.specs.Faults.{fault}
use Rattle.isa.specs.declared.Kind.{Kind}
use Rattle.isa.specs.declared.Instr.{Instr}
use Rattle.isa.specs.Instructions.{branch_target}
use Rattle.guarded.specs.Rules.{is_reserved, is_unfit, outside}

-- 20 or 21 finds this instruction
abbrev pub is_wrong : ℕ → Instr → Bool
is_wrong n i = is_unfit i || outside n (branch_target i)

-- how many of the fields a, b and c a kind names: the first so many
abbrev pub registers_in : Kind → ℕ
registers_in Kind.Label = 0
registers_in Kind.Add = 3
registers_in Kind.Addi = 2
registers_in Kind.Movi = 1
registers_in Kind.Bgt = 2
registers_in Kind.Jd = 0
registers_in Kind.Jmp = 1
registers_in Kind.Ld = 2
registers_in Kind.St = 2
registers_in Kind.Call = 0
registers_in Kind.Ret = 0
registers_in Kind.Unknown = 0

-- a word of this kind is a branch
abbrev pub has_target : Kind → Bool
has_target Kind.Label = false
has_target Kind.Add = false
has_target Kind.Addi = false
has_target Kind.Movi = false
has_target Kind.Bgt = true
has_target Kind.Jd = true
has_target Kind.Jmp = false
has_target Kind.Ld = false
has_target Kind.St = false
has_target Kind.Call = true
has_target Kind.Ret = false
has_target Kind.Unknown = false

-- one of the first so many fields of a word is r0, r1 or r2
abbrev pub names_low : ℕ → ℕ → Bool
names_low count word =
    is_reserved (ltb 0 count) (word / 2 ^ 48 % 256)
    || (is_reserved (ltb 1 count) (word / 2 ^ 40 % 256) || is_reserved (ltb 2 count) (word / 2 ^ 32 % 256))

-- 22, of a result of so many words
abbrev pub length_by : ℕ → Result ℕ Fault
length_by total = cond (ltb 2048 total) (Err (fault Refusal.ResultTooLong Place.Nowhere)) (Ok total)
