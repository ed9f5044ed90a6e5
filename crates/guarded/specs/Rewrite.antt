-- Guards put in for the installer (document 02, K7): from bare code and its edges the guarded code, its edges and "a map from each old
-- address to its new one". Each old address has a block of new words; the blocks stand one after the other, in the old sequence. All of it
-- is said over a technique, since K13 asks the same with memory guards; the call of K7 is plain.
use Rattle.std.specs.Prelude.{ℕ, suc, ◌+◌, ◌-◌, Bool, true, false, cond, ◌&&◌, List, [], ◌∷◌, ◌++◌, map, length, get_or, eqb}
use Rattle.lists.specs.Search.{lowest, bit}
use Rattle.isa.specs.declared.Instr.{Instr}
use Rattle.isa.specs.declared.Technique.{Technique}
use Rattle.isa.specs.Words.{fields, instr_of, fields_of, all_bits_set, encode_of}
use Rattle.isa.specs.Instructions.{instr_at, is_jump, is_store, is_branch}
use Rattle.graph.specs.Claim.{edge_count, jump_of, target_of, is_destination, id_of}
use Rattle.guards.specs.declared.Slot.{Slot}
use Rattle.guards.specs.Sequences.{any_register_of, any_immediate_of, jump_guard, store_guard}
use Rattle.guarded.specs.Blocks.{start_of, laid}

-- the technique has a guard for stores
abbrev pub guards_stores : Technique → Bool
guards_stores Technique.Plain = false
guards_stores Technique.MemoryGuards = true

-- one of three, by what a word of bare code is: a jmp, a st that the technique guards, any other
abbrev pub by_guard : {A : Type 0} → Technique → Instr → A → A → A → A
by_guard t i jump store other = cond (is_jump i) jump (cond (guards_stores t && is_store i) store other)

-- how many words stand for it: as many as its guard has, or one
abbrev pub body_size : Technique → Instr → ℕ
body_size t i = by_guard t i (length (jump_guard t 0 0)) (length (store_guard 0 0)) 1

-- "A destination gets a label in front"
abbrev pub block_size : Technique → List ℕ → List ℕ → ℕ → ℕ
block_size t bare edges a = bit (is_destination edges a) + body_size t (instr_at bare a)

-- "its new one": where the block of the address begins, which is "the label", or "where the old word, or the first word of its guard, now
-- stands"
abbrev pub map_of : Technique → List ℕ → List ℕ → ℕ → ℕ
map_of t bare edges a = start_of (block_size t bare edges) a

-- how many words the new code has: all blocks, and the illegal word; its last address is the new HALT
abbrev pub new_length : Technique → List ℕ → ℕ → List ℕ → ℕ
new_length t bare n edges = map_of t bare edges n + 1

-- a slot's instruction, with this register and this w where the slot leaves them free
abbrev pub fill : Slot → ℕ → ℕ → Instr
fill s r w =
    instr_of
    (fields (fields_of s.instr).kind (fields_of s.instr).a (cond (any_register_of s.free) r (fields_of s.instr).b)
    (fields_of s.instr).c (cond (any_immediate_of s.free) w (fields_of s.instr).w))

-- a guard with its free places filled: r and w in its first word, the register `later` in the others
abbrev pub filled : List Slot → ℕ → ℕ → ℕ → List Instr
filled [] r w later = []
filled (s ∷ slots) r w later = fill s r w ∷ filled slots later 0 later

-- what stands for `jmp rs` and for `st rd(w), rs`, whose a is rs and rd, in a new code of n words and a memory of len
abbrev pub jump_words : Technique → ℕ → ℕ → Instr → List ℕ
jump_words t n id i = map encode_of (filled (jump_guard t n id) (fields_of i).a 0 0)

abbrev pub store_words : ℕ → ℕ → Instr → List ℕ
store_words n len i = map encode_of (filled (store_guard n len) (fields_of i).a (fields_of i).w (fields_of i).b)

-- "Branch targets .. follow the map"; "Other words keep their value"
abbrev pub with_target : Instr → ℕ → Instr
with_target i w = instr_of (fields (fields_of i).kind (fields_of i).a (fields_of i).b (fields_of i).c w)

abbrev pub word_moved : (ℕ → ℕ) → ℕ → Instr → ℕ
word_moved new word i = cond (is_branch i) (encode_of (with_target i (new (fields_of i).w))) word

-- what stands for a word of bare code, where `new` is the map, id the new ID of a jump's set, and n and len the new lengths
abbrev pub body_of : Technique → ℕ → ℕ → (ℕ → ℕ) → ℕ → ℕ → Instr → List ℕ
body_of t n len new id word i = by_guard t i (jump_words t n id i) (store_words n len i) (word_moved new word i ∷ [])

-- the ID of the target set that a destination is in: that of the first edge to it, and by rule 10 of every one
abbrev pub set_of : List ℕ → ℕ → ℕ → ℕ
set_of edges n a = id_of edges n (jump_of edges (lowest (λ k. eqb (target_of edges k) a) (edge_count edges)))

abbrev pub label_of : Bool → ℕ → List ℕ
label_of true id = encode_of (Instr.Label id) ∷ []
label_of false id = []

-- n bare words, and D data words that follow the new code
module _ (t : Technique) (bare : List ℕ) (n : ℕ) (edges : List ℕ) (D : ℕ) where
  -- "the ID of a set is its new lowest address", which is the map of the old one, as the map rises
  abbrev pub label_at : ℕ → List ℕ
  label_at a = label_of (is_destination edges a) (map_of t bare edges (set_of edges n a))

  abbrev pub body_at : ℕ → List ℕ
  body_at a =
      body_of t (new_length t bare n edges) (new_length t bare n edges + D) (map_of t bare edges) (map_of t bare edges (id_of edges n a))
      (get_or bare a 0) (instr_at bare a)

  unfoldable pub block_at : ℕ → List ℕ
  block_at a = label_at a ++ body_at a

  -- "An illegal word is added at the end."
  abbrev pub new_code : List ℕ
  new_code = laid block_at n ++ (all_bits_set ∷ [])

-- "an edge starts at the new jmp itself", the last word of its block
abbrev pub new_jump : Technique → List ℕ → List ℕ → ℕ → ℕ
new_jump t bare edges j = map_of t bare edges (suc j) - 1

-- ".. and edges follow the map", in their sequence
unfoldable pub new_edge : Technique → List ℕ → List ℕ → ℕ → List ℕ
new_edge t bare edges k = new_jump t bare edges (jump_of edges k) ∷ map_of t bare edges (target_of edges k) ∷ []

abbrev pub new_edges : Technique → List ℕ → List ℕ → List ℕ
new_edges t bare edges = laid (new_edge t bare edges) (edge_count edges)

-- an entry for each bare word
abbrev pub new_map : Technique → List ℕ → ℕ → List ℕ → List ℕ
new_map t bare n edges = laid (λ a. map_of t bare edges a ∷ []) n

-- what comes out
pub record Guarded : Type 0 where
  pub code : List ℕ
  pub edges : List ℕ
  pub entries : List ℕ

abbrev pub rewrite_of : Technique → List ℕ → ℕ → List ℕ → ℕ → Guarded
rewrite_of t bare n edges D =
    record { code = new_code t bare n edges D; edges = new_edges t bare edges; entries = new_map t bare n edges }
