-- The calls on instruction words: an instruction as five numbers, its opcode, a, b, c and w (document 01, "Words and memory").
use Rattle.std.specs.Prelude.{ℕ, ◌≡◌, cond, List, [], ◌∷◌}
use Rattle.answers.specs.declared.Refusal.{Refusal}
use Rattle.answers.specs.Numbers.{refusal_number}
use Rattle.isa.specs.declared.Fields.{Fields}
use Rattle.isa.specs.Words.{kind_of, opcode_of, fields, instr_of, fields_of, decode_of, encode_of}
use Rattle.lists.specs.Places.{shorter, put_over}

-- "5. A place lent to reader or writer is too short": here the number of every call whose place is
abbrev pub too_short : ℕ
too_short = refusal_number Refusal.PlaceTooShort

abbrev pub numbers_of : Fields → List ℕ
numbers_of f = opcode_of f.kind ∷ f.a ∷ f.b ∷ f.c ∷ f.w ∷ []

-- the contract of `pg_decode`: its answer r, and the place that it leaves. An illegal word has opcode 255 and zeros.
pub record DecodeCall (word : ℕ) (place : List ℕ) (r : ℕ) (place' : List ℕ) : Type 0 where
  pub answer : r ≡ cond (shorter place 5) too_short 0
  pub fields : place' ≡ cond (shorter place 5) place (put_over (numbers_of (fields_of (decode_of word))) place)

-- the instruction of an opcode and fields: a byte that is no opcode is illegal, and a field that the instruction does not name
-- is passed over
abbrev pub encode_call : ℕ → ℕ → ℕ → ℕ → ℕ → ℕ
encode_call opcode a b c w = encode_of (instr_of (fields (kind_of opcode) a b c w))
