-- What is proved of instruction words, as a reader would ask it. `proofs/Words.antt` has the proofs.
use Rattle.std.specs.Prelude.{ℕ, ◌^◌, ◌<◌, ◌≡◌}
use Rattle.isa.specs.declared.Instr.{Instr}
use Rattle.isa.specs.Words.{fields_of, all_bits_set, decode_of, encode_of}

-- every register that the instruction names is one of r0 to r31
abbrev pub Registers : Instr → Type 0
Registers (Instr.Label w) = Unit {0}
Registers (Instr.Add rd rs rt) = (rd < 32) × (rs < 32) × (rt < 32)
Registers (Instr.Addi rd rs w) = (rd < 32) × (rs < 32)
Registers (Instr.Movi rd w) = rd < 32
Registers (Instr.Bgt rs rt w) = (rs < 32) × (rt < 32)
Registers (Instr.Jd w) = Unit {0}
Registers (Instr.Jmp rs) = rs < 32
Registers (Instr.Ld rd rs w) = (rd < 32) × (rs < 32)
Registers (Instr.St rd rs w) = (rd < 32) × (rs < 32)
Registers (Instr.Call w) = Unit {0}
Registers Instr.Ret = Unit {0}
Registers Instr.Illegal = Unit {0}

pub record RoundTrips : Type 0 where
  -- "decoding then encoding gives back every legal word"
  pub word_back : (word : ℕ) → word < 2 ^ 64 → (decode_of word ≡ Instr.Illegal → ⊥) → encode_of (decode_of word) ≡ word
  -- "encoding then decoding any other gives it back"; that w has 32 bits is the enum's own bound
  pub instruction_back : (i : Instr) → Registers i → (fields_of i).w < 2 ^ 32 → decode_of (encode_of i) ≡ i
  -- "An instruction with a register above 31 is written as illegal"
  pub register_above_31 : (i : Instr) → (Registers i → ⊥) → encode_of i ≡ all_bits_set
  pub illegal_word : encode_of Instr.Illegal ≡ all_bits_set
  pub all_bits_set : decode_of all_bits_set ≡ Instr.Illegal
  -- "The word of label w is the number w, so a movi can hold it."
  pub label_word : (w : ℕ) → encode_of (Instr.Label w) ≡ w
