-- Guard sequences as code has them: an array of words, and for each how much of it is free. `guards::jump_words` and the contracts of
-- private functions cite these; nothing that is promised to users does.
use Rattle.std.specs.Prelude.{ℕ, zero, suc, ◌+◌, ◌^◌, ◌<◌, ◌≡◌, Bool, true, false, ◌&&◌, ◌||◌, List, [], ◌∷◌, length, get_or, set, ltb, leb, Option, None, Some}
use Rattle.lists.specs.Search.{any}
use Rattle.isa.specs.declared.Instr.{Instr}
use Rattle.isa.specs.declared.Technique.{Technique}
use Rattle.isa.specs.Words.{named_by, exact, fields_of, decode_of, encode_of}
use Rattle.isa.specs.Instructions.{instr_at, is_jump, is_store, branch_target}
use Rattle.guards.specs.declared.Slot.{Slot}
use Rattle.guards.specs.declared.Free.{Free}
use Rattle.guards.specs.Sequences.{any_register_of, any_immediate_of, jump_guard}
use Rattle.guards.specs.Rules.{store_unguarded, jump_unguarded}

abbrev pub slot_of : ℕ → Free → Slot
slot_of word free = record { instr = decode_of word; free = free }

-- the slots from place k on, m of them
unfoldable pub slots_from : List ℕ → List Free → ℕ → ℕ → List Slot
slots_from words free k zero = []
slots_from words free k (suc m) = slot_of (get_or words k 0) (get_or free k Free.Nothing) ∷ slots_from words free (suc k) m

-- the slots of a sequence, by its words and by how much of each is free
abbrev pub slots_of : List ℕ → List Free → List Slot
slots_of words free = slots_from words free 0 (length words)

-- a legal instruction, whose free fields are named and 0
pub record Form (s : Slot) : Type 0 where
  pub legal : exact (fields_of s.instr) ≡ true
  pub short : (fields_of s.instr).w < 2 ^ 32
  pub register_named : any_register_of s.free ≡ true → (named_by (fields_of s.instr).kind).b ≡ true
  pub register_zero : any_register_of s.free ≡ true → (fields_of s.instr).b ≡ 0
  pub immediate_named : any_immediate_of s.free ≡ true → (named_by (fields_of s.instr).kind).w ≡ true
  pub immediate_zero : any_immediate_of s.free ≡ true → (fields_of s.instr).w ≡ 0

abbrev pub Formed : List Slot → Type 0
Formed [] = Unit {0}
Formed (s ∷ slots) = Form s × Formed slots

-- the words of a sequence have that form, and of each it is told how much is free
pub record Sequenced (words : List ℕ) (free : List Free) : Type 0 where
  pub as_many : length free ≡ length words
  pub form : (k : ℕ) → k < length words → Form (slot_of (get_or words k 0) (get_or free k Free.Nothing))

-- the words of a sequence in an array of m, and how much of each is free
abbrev pub words_of : ℕ → List Slot → List ℕ
words_of zero slots = []
words_of (suc m) [] = 0 ∷ words_of m []
words_of (suc m) (s ∷ slots) = encode_of s.instr ∷ words_of m slots

abbrev pub frees_of : ℕ → List Slot → List Free
frees_of zero slots = []
frees_of (suc m) [] = Free.Nothing ∷ frees_of m []
frees_of (suc m) (s ∷ slots) = s.free ∷ frees_of m slots

-- how many words a jmp's sequence has
abbrev pub jump_length : Technique → ℕ
jump_length Technique.Plain = 6
jump_length Technique.MemoryGuards = 10

-- the place of the movi that holds the ID
abbrev pub id_place : Technique → ℕ
id_place Technique.Plain = 2
id_place Technique.MemoryGuards = 6

-- the words of a jmp's sequence, with 0 for that movi
abbrev pub jump_words : Technique → ℕ → List ℕ
jump_words t n = set (words_of 10 (jump_guard t n 0)) (id_place t) 0

-- an instruction of this kind stands from w on, before the last of len words
abbrev pub ending_near : (Instr → Bool) → List ℕ → ℕ → ℕ → ℕ → Bool
ending_near kind memory n len w = any (λ a. kind (instr_at memory a) && (leb w a && ltb (a + 1) (w + len))) n

-- rule 15 by the jmp and st words that stand near
abbrev pub guard_near : Technique → List ℕ → ℕ → ℕ → Bool
guard_near Technique.Plain memory n w = ending_near is_jump memory n 6 w
guard_near Technique.MemoryGuards memory n w = ending_near is_store memory n 6 w || ending_near is_jump memory n 10 w

abbrev pub target_bad : Technique → List ℕ → ℕ → ℕ → Bool
target_bad t memory n w = leb n w || guard_near t memory n w

abbrev pub target_bad_if_any : Technique → List ℕ → ℕ → Option ℕ → Bool
target_bad_if_any t memory n None = false
target_bad_if_any t memory n (Some w) = target_bad t memory n w

abbrev pub branch_bad : Technique → List ℕ → ℕ → Instr → Bool
branch_bad t memory n i = target_bad_if_any t memory n (branch_target i)

-- rules 13 and 14 have passed
pub record GuardsKept (t : Technique) (memory : List ℕ) (n : ℕ) (edges : List ℕ) : Type 0 where
  pub stores : (a : ℕ) → a < n → store_unguarded t memory n a ≡ false
  pub jumps : (a : ℕ) → a < n → jump_unguarded t memory n edges a ≡ false
