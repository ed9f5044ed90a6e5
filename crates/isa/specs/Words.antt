-- Instruction words (document 01, "Words and memory"): which kind an opcode is, which fields a kind names, and whether a
-- word is the exact form of its kind.
use Rattle.std.specs.Prelude.{ℕ, ◌+◌, ◌*◌, ◌/◌, ◌%◌, ◌^◌, Bool, true, false, not, cond, ◌&&◌, ltb, eqb}
use Rattle.isa.specs.declared.Kind.{Kind}
use Rattle.isa.specs.declared.Instr.{Instr}
use Rattle.isa.specs.declared.Named.{Named}
use Rattle.isa.specs.declared.Fields.{Fields}

-- The first question: the table's column "opcode", and "call w (opcode 9, fields as jd) and ret (opcode 10, every field 0)" (document 02,
-- K8). Unknown stands for every other byte.
abbrev pub kind_of : ℕ → Kind
kind_of opcode =
    cond (eqb opcode 0) Kind.Label
    (cond (eqb opcode 1) Kind.Add
    (cond (eqb opcode 2) Kind.Addi
    (cond (eqb opcode 3) Kind.Movi
    (cond (eqb opcode 4) Kind.Bgt
    (cond (eqb opcode 5) Kind.Jd
    (cond (eqb opcode 6) Kind.Jmp
    (cond (eqb opcode 7) Kind.Ld
    (cond (eqb opcode 8) Kind.St
    (cond (eqb opcode 9) Kind.Call
    (cond (eqb opcode 10) Kind.Ret Kind.Unknown))))))))))

-- Unknown has no opcode, so nothing of that kind is written; 255 stands for it where a kind is told by its number.
abbrev pub opcode_of : Kind → ℕ
opcode_of Kind.Label = 0
opcode_of Kind.Add = 1
opcode_of Kind.Addi = 2
opcode_of Kind.Movi = 3
opcode_of Kind.Bgt = 4
opcode_of Kind.Jd = 5
opcode_of Kind.Jmp = 6
opcode_of Kind.Ld = 7
opcode_of Kind.St = 8
opcode_of Kind.Call = 9
opcode_of Kind.Ret = 10
opcode_of Kind.Unknown = 255

-- the two are one kind: each kind has a number of its own
abbrev pub same_kind : Kind → Kind → Bool
same_kind k l = eqb (opcode_of k) (opcode_of l)

-- The second question: the table's column "fields".
abbrev names : Bool → Bool → Bool → Bool → Named
names a b c w = record { a = a; b = b; c = c; w = w }

abbrev pub named_by : Kind → Named
named_by Kind.Label = names false false false true
named_by Kind.Add = names true true true false
named_by Kind.Addi = names true true false true
named_by Kind.Movi = names true false false true
named_by Kind.Bgt = names true true false true
named_by Kind.Jd = names false false false true
named_by Kind.Jmp = names true false false false
named_by Kind.Ld = names true true false true
named_by Kind.St = names true true false true
named_by Kind.Call = names false false false true
named_by Kind.Ret = names false false false false
named_by Kind.Unknown = names false false false false

-- The third question: "Of a, b and c, one named below is a register, 0 to 31; whatever is not named, w too, is 0."
abbrev pub register_ok : Bool → ℕ → Bool
register_ok true x = ltb x 32
register_ok false x = eqb x 0

abbrev pub immediate_ok : Bool → ℕ → Bool
immediate_ok true w = true
immediate_ok false w = eqb w 0

abbrev pub known : Kind → Bool
known kind = not (same_kind Kind.Unknown kind)

abbrev pub fields_fit : Fields → Bool
fields_fit f =
    register_ok (named_by f.kind).a f.a
    && (register_ok (named_by f.kind).b f.b
    && (register_ok (named_by f.kind).c f.c && immediate_ok (named_by f.kind).w f.w))

abbrev pub exact : Fields → Bool
exact f = known f.kind && fields_fit f

abbrev pub fields : Kind → ℕ → ℕ → ℕ → ℕ → Fields
fields kind a b c w = record { kind = kind; a = a; b = b; c = c; w = w }

-- "Instruction word, highest byte first: opcode, field a, field b, field c, then 32 bits w, unsigned."
abbrev pub split : ℕ → Fields
split word =
    fields (kind_of (word / 2 ^ 56)) (word / 2 ^ 48 % 256) (word / 2 ^ 40 % 256) (word / 2 ^ 32 % 256) (word % 2 ^ 32)

abbrev pub pack : Fields → ℕ
pack f = (((opcode_of f.kind * 256 + f.a) * 256 + f.b) * 256 + f.c) * 2 ^ 32 + f.w

-- The table's column "instruction", read off the fields and back.
abbrev build : Kind → ℕ → ℕ → ℕ → ℕ → Instr
build Kind.Label a b c w = Instr.Label w
build Kind.Add a b c w = Instr.Add a b c
build Kind.Addi a b c w = Instr.Addi a b w
build Kind.Movi a b c w = Instr.Movi a w
build Kind.Bgt a b c w = Instr.Bgt a b w
build Kind.Jd a b c w = Instr.Jd w
build Kind.Jmp a b c w = Instr.Jmp a
build Kind.Ld a b c w = Instr.Ld a b w
build Kind.St a b c w = Instr.St a b w
build Kind.Call a b c w = Instr.Call w
build Kind.Ret a b c w = Instr.Ret
build Kind.Unknown a b c w = Instr.Illegal

abbrev pub instr_of : Fields → Instr
instr_of f = build f.kind f.a f.b f.c f.w

abbrev pub fields_of : Instr → Fields
fields_of (Instr.Label w) = fields Kind.Label 0 0 0 w
fields_of (Instr.Add rd rs rt) = fields Kind.Add rd rs rt 0
fields_of (Instr.Addi rd rs w) = fields Kind.Addi rd rs 0 w
fields_of (Instr.Movi rd w) = fields Kind.Movi rd 0 0 w
fields_of (Instr.Bgt rs rt w) = fields Kind.Bgt rs rt 0 w
fields_of (Instr.Jd w) = fields Kind.Jd 0 0 0 w
fields_of (Instr.Jmp rs) = fields Kind.Jmp rs 0 0 0
fields_of (Instr.Ld rd rs w) = fields Kind.Ld rd rs 0 w
fields_of (Instr.St rd rs w) = fields Kind.St rd rs 0 w
fields_of (Instr.Call w) = fields Kind.Call 0 0 0 w
fields_of Instr.Ret = fields Kind.Ret 0 0 0 0
fields_of Instr.Illegal = fields Kind.Unknown 0 0 0 0

-- "Illegal is written as the word with all bits set."
abbrev pub all_bits_set : ℕ
all_bits_set = 0xffff_ffff_ffff_ffff

-- "A word that is no exact form decodes as illegal."
unfoldable pub decode_of : ℕ → Instr
decode_of word = cond (exact (split word)) (instr_of (split word)) Instr.Illegal

-- "An instruction with a register above 31 is written as illegal."
unfoldable pub word_of : Fields → ℕ
word_of f = cond (exact f) (pack f) all_bits_set

unfoldable pub encode_of : Instr → ℕ
encode_of i = word_of (fields_of i)
