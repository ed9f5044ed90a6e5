-- Where the words of the new code stand: blocks are as long as their sizes say, so the map rises, and the word at each place is that of
-- its block.
use Prim.Native.Nat.{ℕ, suc, ◌+◌, ◌-◌, ◌<◌, ◌≤◌}
use mathlib.Core.Path.{◌≡◌, refl, sym, ap, subst, ◌∙◌}
use mathlib.Core.Bool.{Bool, true, false, cond, ◌&&◌}
use mathlib.Core.List.{List, [], ◌∷◌, ◌++◌, map}
use native.Mathlib.Omega.{arith}
use lib.ListN.{length, get_or, length-append, get_or-append}
use lib.Seq.{get_or-append-add}
use Rattle.lists.specs.Search.{bit}
use Rattle.isa.specs.declared.Instr.{Instr}
use Rattle.isa.specs.declared.Technique.{Technique}
use Rattle.isa.specs.Words.{fields_of, all_bits_set, encode_of}
use Rattle.isa.specs.Instructions.{instr_at, is_jump, is_store, is_branch}
use Rattle.graph.specs.Claim.{is_destination, id_of}
use Rattle.guards.specs.declared.Slot.{Slot}
use Rattle.guards.specs.Sequences.{jump_guard, store_guard}
use Rattle.guarded.specs.Blocks.{laid}
use Rattle.guarded.specs.Rewrite.{
  guards_stores,
  body_size,
  block_size,
  map_of,
  new_length,
  filled,
  jump_words,
  store_words,
  word_moved,
  with_target,
  body_of,
  set_of,
  label_of,
  label_at,
  body_at,
  block_at,
  new_code,
}
use Rattle.guarded.specs.Theorems.{Stand, new_memory, body_start}
use Rattle.guarded.proofs.Blocks.{start_next, start_after, start_le, laid_length, laid_at}
use Rattle.guarded.proofs.Cases.{at_jump, at_store, at_other}

-- ---- sizes

pub filled_length : (slots : List Slot) (r w later : ℕ) → length (map encode_of (filled slots r w later)) ≡ length slots
filled_length [] r w later = refl
filled_length (s ∷ slots) r w later = ap suc (filled_length slots later 0 later)

pub jump_guard_length : (t : Technique) (n id : ℕ) → length (jump_guard t n id) ≡ length (jump_guard t 0 0)
jump_guard_length Technique.Plain n id = refl
jump_guard_length Technique.MemoryGuards n id = refl

pub body_length : (t : Technique) (n len : ℕ) (new : ℕ → ℕ) (id word : ℕ) (i : Instr)
    → length (body_of t n len new id word i) ≡ body_size t i
body_length t n len new id word i = go (is_jump i) (guards_stores t && is_store i)
  where
    go : (b c : Bool)
        → length (cond b (jump_words t n id i) (cond c (store_words n len i) (word_moved new word i ∷ [])))
        ≡ cond b (length (jump_guard t 0 0)) (cond c (length (store_guard 0 0)) 1)
    go true c = filled_length (jump_guard t n id) (fields_of i).a 0 0 ∙ jump_guard_length t n id
    go false true = refl
    go false false = refl

-- a guard has as many words as its block leaves it
module _ (t : Technique) (n : ℕ) (i : Instr) where
  pub jump_size : (id : ℕ) → is_jump i ≡ true → length (jump_guard t n id) ≡ body_size t i
  jump_size id e = jump_guard_length t n id ∙ sym (at_jump t i (length (jump_guard t 0 0)) (length (store_guard 0 0)) 1 e)

  pub store_size : (len : ℕ) → (guards_stores t && is_store i) ≡ true → length (store_guard n len) ≡ body_size t i
  store_size len e = sym (at_store t i (length (jump_guard t 0 0)) (length (store_guard 0 0)) 1 e)

pub body_pos : (t : Technique) (i : Instr) → 1 ≤ body_size t i
body_pos t i = go t (is_jump i) (guards_stores t && is_store i)
  where
    go : (t : Technique) (b c : Bool) → 1 ≤ cond b (length (jump_guard t 0 0)) (cond c (length (store_guard 0 0)) 1)
    go Technique.Plain true c = omega arith
    go Technique.MemoryGuards true c = omega arith
    go t false true = omega arith
    go t false false = omega arith

pub label_length : (b : Bool) (id : ℕ) → length (label_of b id) ≡ bit b
label_length true id = refl
label_length false id = refl

-- ---- the map rises

module _ (t : Technique) (bare edges : List ℕ) where
  pub map_next : (a : ℕ) → map_of t bare edges (suc a) ≡ map_of t bare edges a + (bit (is_destination edges a) + body_size t (instr_at bare a))
  map_next a = start_next (block_size t bare edges) a

  pub map_lt : (a b : ℕ) → a < b → map_of t bare edges a < map_of t bare edges b
  map_lt a b h =
      let l = start_after (block_size t bare edges) b a h in let p = body_pos t (instr_at bare a) in omega arith

  pub map_le : (a b : ℕ) → a ≤ b → map_of t bare edges a ≤ map_of t bare edges b
  map_le a b h = start_le (block_size t bare edges) b a h

  -- so it tells addresses apart, and in their sequence
  pub map_inverse : (a b : ℕ) → map_of t bare edges a < map_of t bare edges b → a < b
  map_inverse a b h = let p : b ≤ a → ⊥ = λ l. let q = map_le b a l in omega arith in omega arith

  pub map_same : (a b : ℕ) → map_of t bare edges a ≡ map_of t bare edges b → a ≡ b
  map_same a b e =
      let p : a < b → ⊥ = λ l. let q = map_lt a b l in omega arith in
      let r : b < a → ⊥ = λ l. let q = map_lt b a l in omega arith in
      omega arith

-- ---- the words

module _ (t : Technique) (bare : List ℕ) (n : ℕ) (edges : List ℕ) (D : ℕ) where
  label_at_length : (a : ℕ) → length (label_at t bare n edges D a) ≡ bit (is_destination edges a)
  label_at_length a = label_length (is_destination edges a) _

  body_at_length : (a : ℕ) → length (body_at t bare n edges D a) ≡ body_size t (instr_at bare a)
  body_at_length a = body_length t _ _ (map_of t bare edges) _ (get_or bare a 0) (instr_at bare a)

  pub block_length : (a : ℕ) → length (block_at t bare n edges D a) ≡ block_size t bare edges a
  unfolding block_at
  block_length a =
      let l = label_at_length a in
      let b = body_at_length a in
      length-append (label_at t bare n edges D a) (body_at t bare n edges D a) ∙ omega arith

  pub blocks_length : length (laid (block_at t bare n edges D) n) ≡ map_of t bare edges n
  blocks_length = laid_length (block_at t bare n edges D) (block_size t bare edges) block_length n

  pub code_length : length (new_code t bare n edges D) ≡ new_length t bare n edges
  code_length = length-append (laid (block_at t bare n edges D) n) (all_bits_set ∷ []) ∙ ap (λ (x : ℕ). x + 1) blocks_length

module _ (t : Technique) (bare : List ℕ) (n : ℕ) (edges values : List ℕ) where
  abbrev memory : List ℕ
  memory = new_memory t bare n edges values

  abbrev D : ℕ
  D = length values

  pub memory_length : length memory ≡ new_length t bare n edges + D
  memory_length = length-append (new_code t bare n edges D) values ∙ ap (λ (x : ℕ). x + D) (code_length t bare n edges D)

  in_code : (p : ℕ) → p < new_length t bare n edges → get_or memory p 0 ≡ get_or (new_code t bare n edges D) p 0
  in_code p h = let l = code_length t bare n edges D in get_or-append (new_code t bare n edges D) values 0 p (omega arith)

  -- the last word
  pub last_word : get_or memory (new_length t bare n edges - 1) 0 ≡ all_bits_set
  last_word =
      let l = blocks_length t bare n edges D in
      let z : new_length t bare n edges - 1 ≡ length (laid (block_at t bare n edges D) n) + 0 = omega arith in
      in_code _ (omega arith)
      ∙ ap (λ (x : ℕ). get_or (new_code t bare n edges D) x 0) z
      ∙ get_or-append-add (laid (block_at t bare n edges D) n) (all_bits_set ∷ []) 0 0

  block_at_lem : (a k : ℕ) → a < n → k < block_size t bare edges a
      → get_or memory (map_of t bare edges a + k) 0 ≡ get_or (block_at t bare n edges D a) k 0
  block_at_lem a k h l =
      let z = blocks_length t bare n edges D in
      let q = start_after (block_size t bare edges) n a h in
      in_code _ (omega arith)
      ∙ get_or-append (laid (block_at t bare n edges D) n) (all_bits_set ∷ []) 0 (map_of t bare edges a + k) (omega arith)
      ∙ laid_at (block_at t bare n edges D) (block_size t bare edges) (block_length t bare n edges D) n a k h l

  -- a destination's label
  pub label_at_lem : (a : ℕ) → a < n → is_destination edges a ≡ true
      → get_or memory (map_of t bare edges a) 0 ≡ encode_of (Instr.Label (map_of t bare edges (set_of edges n a)))
  unfolding block_at
  label_at_lem a h e =
      let z : map_of t bare edges a + 0 ≡ map_of t bare edges a = omega arith in
      let p = body_pos t (instr_at bare a) in
      (rw z at (block_at_lem a 0 h (omega arith)))
      ∙ ap (λ (b : Bool). get_or (label_of b (map_of t bare edges (set_of edges n a)) ++ body_at t bare n edges D a) 0 0) e

  -- the words that stand for the word at a end where the next block begins
  pub body_ends : (a : ℕ) → map_of t bare edges (suc a) ≡ body_start t bare n edges values a + body_size t (instr_at bare a)
  body_ends a = let z = map_next t bare edges a in omega arith

  body_at_lem : (a : ℕ) → a < n → Stand memory (body_start t bare n edges values a) (body_at t bare n edges D a)
  unfolding block_at
  body_at_lem a h k l =
      let b = label_at_length t bare n edges D a in
      let s = body_at_length t bare n edges D a in
      let z : body_start t bare n edges values a + k ≡ map_of t bare edges a + (length (label_at t bare n edges D a) + k) = omega arith in
      ap (λ (x : ℕ). get_or memory x 0) z
      ∙ block_at_lem a (length (label_at t bare n edges D a) + k) h (omega arith)
      ∙ get_or-append-add (label_at t bare n edges D a) (body_at t bare n edges D a) k 0

  -- they are, by what it is
  module _ (a : ℕ) (h : a < n) where
    abbrev for_jump : List ℕ
    for_jump = jump_words t (new_length t bare n edges) (map_of t bare edges (id_of edges n a)) (instr_at bare a)

    abbrev for_store : ℕ → List ℕ
    for_store len = store_words (new_length t bare n edges) len (instr_at bare a)

    abbrev for_other : Bool → List ℕ
    for_other branch = cond branch (encode_of (with_target (instr_at bare a) (map_of t bare edges (fields_of (instr_at bare a)).w))) (get_or bare a 0) ∷ []

    abbrev Stands : List ℕ → Type 0
    Stands words = Stand memory (body_start t bare n edges values a) words

    pub jump_stands : is_jump (instr_at bare a) ≡ true → Stands for_jump
    jump_stands e = subst Stands (at_jump t (instr_at bare a) for_jump _ _ e) (body_at_lem a h)

    pub store_stands : (guards_stores t && is_store (instr_at bare a)) ≡ true → Stands (for_store (length memory))
    store_stands e =
        subst Stands (at_store t (instr_at bare a) _ (for_store (new_length t bare n edges + D)) _ e ∙ ap for_store (sym memory_length)) (body_at_lem a h)

    pub other_stands : (b : Bool) → is_jump (instr_at bare a) ≡ false → (guards_stores t && is_store (instr_at bare a)) ≡ false
        → is_branch (instr_at bare a) ≡ b → Stands (for_other b)
    other_stands b e f q =
        subst Stands (at_other t (instr_at bare a) _ _ (for_other (is_branch (instr_at bare a))) e f ∙ ap for_other q) (body_at_lem a h)
