-- A guard sequence kept in arrays: the slots read back are those put in, and a match goes slot by slot.
use Prim.Native.Nat.{ℕ, zero, suc, ◌+◌, ◌-◌, ◌^◌, ◌<◌, ◌≤◌}
use mathlib.Core.Path.{◌≡◌, refl, sym, ap, subst, ◌∙◌}
use mathlib.Core.Bool.{Bool, true, ◌&&◌}
use mathlib.Core.List.{List, [], ◌∷◌}
use native.Mathlib.Omega.{arith}
use native.Mathlib.Numerals.{add-one}
use lib.ListN.{length, get_or, set, take}
use lib.Seq.{set-set}
use Rattle.std.specs.List.{list_all, range_with_len}
use Rattle.lists.proofs.Bools.{clash}
use Rattle.isa.specs.declared.Instr.{Instr}
use Rattle.isa.specs.declared.Technique.{Technique}
use Rattle.isa.specs.Words.{exact, fields_of, encode_of}
use Rattle.isa.specs.Instructions.{instr_at}
use Rattle.isa.proofs.Words.{exact_instruction}
use Rattle.guards.specs.declared.Slot.{Slot}
use Rattle.guards.specs.declared.Free.{Free}
use Rattle.guards.specs.Sequences.{just, any_register_in, label_test, range_test, jump_guard, store_guard, fits, stands_at}
use Rattle.guards.specs.Patterns.{slot_of, slots_from, slots_of, Form, Formed, Sequenced, words_of, frees_of, jump_length, id_place, jump_words}

pub slots_length : (words : List ℕ) (free : List Free) (k m : ℕ) → length (slots_from words free k m) ≡ m
unfolding slots_from
slots_length words free k zero = refl
slots_length words free k (suc m) = ap suc (slots_length words free (suc k) m)

slots_tail : (x : ℕ) (y : Free) (words : List ℕ) (free : List Free) (k m : ℕ)
    → slots_from (x ∷ words) (y ∷ free) (suc k) m ≡ slots_from words free k m
unfolding slots_from
slots_tail x y words free k zero = refl
slots_tail x y words free k (suc m) =
    ap (λ (rest : List Slot). slot_of (get_or words k 0) (get_or free k Free.Nothing) ∷ rest) (slots_tail x y words free (suc k) m)

slot_back : (s : Slot) → Form s → slot_of (encode_of s.instr) s.free ≡ s
slot_back s h = ap (λ (i : Instr). record { instr = i; free = s.free }) (exact_instruction s.instr h.legal h.short)

-- what is read back from the arrays of a sequence
pub slots_back : (slots : List Slot) (m : ℕ) → Formed slots → length slots ≤ m
    → slots_from (words_of m slots) (frees_of m slots) 0 (length slots) ≡ slots
unfolding slots_from
slots_back [] m h l = refl
slots_back (s ∷ slots) zero h l = absurd (omega arith)
slots_back (s ∷ slots) (suc m) h l =
    ap (λ (x : Slot). x ∷ slots_from (words_of (suc m) (s ∷ slots)) (frees_of (suc m) (s ∷ slots)) 1 (length slots)) (slot_back s h.0)
    ∙ ap (λ (rest : List Slot). s ∷ rest)
    (slots_tail (encode_of s.instr) s.free (words_of m slots) (frees_of m slots) 0 (length slots)
    ∙ slots_back slots m h.1 (omega arith))

-- a match goes slot by slot
module _ (memory words : List ℕ) (free : List Free) (b : ℕ) where
  abbrev pub fits_at : ℕ → Bool
  fits_at k = fits (slot_of (get_or words k 0) (get_or free k Free.Nothing)) (instr_at memory (b + k))

  all_from : (k m : ℕ) → list_all fits_at (range_with_len k m) ≡ stands_at memory (b + k) (slots_from words free k m)
  unfolding slots_from stands_at
  all_from k zero = refl
  all_from k (suc m) =
      let y : b + (k + 1) ≡ suc (b + k) = omega arith in
      ap (λ (x : Bool). fits_at k && x) (all_from (k + 1) m ∙ rw (y, add-one k))

  pub all_fit : (m : ℕ) → list_all fits_at (range_with_len 0 m) ≡ stands_at memory b (slots_from words free 0 m)
  all_fit m = let z : b + 0 ≡ b = omega arith in all_from 0 m ∙ rw z

-- the sequences have the form that the arrays ask for
whole : (i : Instr) → exact (fields_of i) ≡ true → (fields_of i).w < 2 ^ 32 → Form (just i)
whole i e l =
    record {
      legal = e;
      short = l;
      register_named = λ h. clash (cc);
      register_zero = λ h. clash (cc);
      immediate_named = λ h. clash (cc);
      immediate_zero = λ h. clash (cc);
    }

addi_form : (free : Free) → Form (record { instr = Instr.Addi 0 0 0; free = free })
addi_form free =
    record {
      legal = refl;
      short = omega arith;
      register_named = λ _. refl;
      register_zero = λ _. refl;
      immediate_named = λ _. refl;
      immediate_zero = λ _. refl;
    }

store_form : Form (any_register_in (Instr.St 0 0 0))
store_form =
    record {
      legal = refl;
      short = omega arith;
      register_named = λ _. refl;
      register_zero = λ _. refl;
      immediate_named = λ h. clash (cc);
      immediate_zero = λ h. clash (cc);
    }

module _ (n : ℕ) (small : n ≤ 2048) where
  label_test_lem : (id : ℕ) (rest : List Slot) → id < 2 ^ 32 → Formed rest → Formed (label_test n id rest)
  label_test_lem id rest l h = (
    whole (Instr.Ld 1 0 0) refl (omega arith),
    (
      whole (Instr.Movi 2 id) refl l,
      (whole (Instr.Bgt 1 2 (n - 1)) refl (omega arith), (whole (Instr.Bgt 2 1 (n - 1)) refl (omega arith), h)),
    ),
  )

  range_test_lem : (high low : ℕ) (rest : List Slot) → high < 2 ^ 32 → low < 2 ^ 32 → Formed rest → Formed (range_test n high low rest)
  range_test_lem high low rest lh ll h = (
    whole (Instr.Movi 1 high) refl lh,
    (
      whole (Instr.Movi 2 low) refl ll,
      (whole (Instr.Bgt 0 1 (n - 1)) refl (omega arith), (whole (Instr.Bgt 2 0 (n - 1)) refl (omega arith), h)),
    ),
  )

  jump_end : Formed (just (Instr.Jmp 0) ∷ [])
  jump_end = (whole (Instr.Jmp 0) refl (omega arith), tt)

  pub jump_formed : (t : Technique) (id : ℕ) → id < 2 ^ 32 → Formed (jump_guard t n id)
  jump_formed Technique.Plain id l = (addi_form Free.Register, label_test_lem id (just (Instr.Jmp 0) ∷ []) l jump_end)
  jump_formed Technique.MemoryGuards id l =
      (addi_form Free.Register, range_test_lem (n - 1) 0 (label_test n id (just (Instr.Jmp 0) ∷ [])) (omega arith) (omega arith) (label_test_lem id (just (Instr.Jmp 0) ∷ []) l jump_end))

  store_end : Formed (any_register_in (Instr.St 0 0 0) ∷ [])
  store_end = (store_form, tt)

  pub store_formed : (len : ℕ) → len ≤ 4096 → Formed (store_guard n len)
  store_formed len l =
      (addi_form Free.RegisterAndImmediate, range_test_lem (len - 1) n (any_register_in (Instr.St 0 0 0) ∷ []) (omega arith) (omega arith) store_end)

-- words that are those of a sequence
pub record Kept (words : List ℕ) (free : List Free) (slots : List Slot) : Type 0 where
  pub same : slots_of words free ≡ slots
  pub sequenced : Sequenced words free

form_at : (words : List ℕ) (free : List Free) (k m i : ℕ) → Formed (slots_from words free k m) → i < m
    → Form (slot_of (get_or words (k + i) 0) (get_or free (k + i) Free.Nothing))
unfolding slots_from
form_at words free k zero i h l = absurd (omega arith)
form_at words free k (suc m) zero h l = let z : k + 0 ≡ k = omega arith in rw z h.0
form_at words free k (suc m) (suc i) h l = let z : k + suc i ≡ suc k + i = omega arith in rw z (form_at words free (suc k) m i h.1 (omega arith))

kept : (words : List ℕ) (free : List Free) (slots : List Slot) → length free ≡ length words → Formed slots → slots_of words free ≡ slots
    → Kept words free slots
kept words free slots l h e =
    record {
      same = e;
      sequenced = record {
        as_many = l;
        form = λ k q. let z : 0 + k ≡ k = omega arith in rw z at (form_at words free 0 (length words) k (subst Formed (sym e) h) q);
      };
    }

put : (t : Technique) (n : ℕ) (words : List ℕ) (x : ℕ) → words ≡ jump_words t n
    → set words (id_place t) x ≡ set (words_of 10 (jump_guard t n 0)) (id_place t) x
put t n words x e =
    ap (λ (xs : List ℕ). set xs (id_place t) x) e ∙ set-set (words_of 10 (jump_guard t n 0)) (id_place t) 0 x

-- the ID is put in
pub jump_kept : (t : Technique) (n id : ℕ) (words : List ℕ) (place x len : ℕ) (free : List Free) → n ≤ 2048 → id < 2 ^ 32 → words ≡ jump_words t n
    → place ≡ id_place t → x ≡ encode_of (Instr.Movi 2 id) → len ≡ jump_length t → free ≡ frees_of 10 (jump_guard Technique.Plain 0 0)
    → Kept (take len (set words place x)) (take len free) (jump_guard t n id)
unfolding slots_from
jump_kept Technique.Plain n id words place x len free s l ew ep ex el ef =
    rw (ep, put Technique.Plain n words x ew, ex, el, ef)
    (kept _ _ (jump_guard Technique.Plain n id) refl (jump_formed n s Technique.Plain id l)
    (slots_back (jump_guard Technique.Plain n id) 6 (jump_formed n s Technique.Plain id l) (omega arith)))
jump_kept Technique.MemoryGuards n id words place x len free s l ew ep ex el ef =
    rw (ep, put Technique.MemoryGuards n words x ew, ex, el, ef)
    (kept _ _ (jump_guard Technique.MemoryGuards n id) refl (jump_formed n s Technique.MemoryGuards id l)
    (slots_back (jump_guard Technique.MemoryGuards n id) 10 (jump_formed n s Technique.MemoryGuards id l) (omega arith)))

-- no word of a st's sequence is left open
pub store_kept : (n len : ℕ) (words : List ℕ) (free : List Free) → n ≤ 2048 → len ≤ 4096 → words ≡ words_of 6 (store_guard n len)
    → free ≡ frees_of 6 (store_guard 0 0) → Kept words free (store_guard n len)
unfolding slots_from
store_kept n len words free s l ew ef =
    rw (ew, ef)
    (kept _ _ (store_guard n len) refl (store_formed n s len l) (slots_back (store_guard n len) 6 (store_formed n s len l) (omega arith)))
