-- What is known of r0 where a guard ends: its words replayed on r0, r1 and r2 from any values. And no word of a guard is a label or a call.
use Prim.Native.Nat.{ℕ, zero, suc, ◌+◌, ◌-◌, ◌≤◌, ◌<◌}
use mathlib.Core.Path.{◌≡◌, refl, sym, ap, subst, ◌∙◌}
use mathlib.Core.Bool.{Bool, true, not, ◌&&◌}
use mathlib.Core.List.{List, [], ◌∷◌}
use native.Mathlib.Omega.{arith}
use lib.Dec.{lit<}
use lib.ListN.{length, get_or, take}
use borrow.Author.Tests.{not-true}
use Rattle.lists.proofs.Bools.{clash, and_left, and_right, true_false}
use Rattle.isa.specs.declared.Kind.{Kind}
use Rattle.isa.specs.declared.Instr.{Instr}
use Rattle.isa.specs.declared.Technique.{Technique}
use Rattle.isa.specs.Words.{same_kind, fields_of}
use Rattle.isa.specs.Instructions.{instr_at, is_kind}
use Rattle.guards.specs.declared.Slot.{Slot}
use Rattle.guards.specs.Sequences.{just, label_test, range_test, jump_guard, store_guard, fits, stands_at}
use Rattle.guards.proofs.Fits.{agrees, fits_filled, slot_fits}
use Rattle.guards.proofs.Replay.{Replay, Fallen, filled_from, words_filled}

-- what falling through the two tests leaves known, where r0 is v
module _ (memory : List ℕ) (n : ℕ) where
  label_known : (id b v y z : ℕ) (m : List ℕ) → Replay memory n (filled_from memory b (label_test n id [])) (v ∷ y ∷ z ∷ []) m
      → (get_or m 0 0 ≡ v) × (v < n → get_or memory v 0 ≡ id)
  label_known id b v y z m r =
      let same : v + 0 ≡ v = omega arith in
      let loaded : v < n → r.0 ≡ get_or memory v 0 = λ q. rw same at (r.1 (lit< tt) (omega arith)) in
      let low = r.2.0 (lit< tt) (lit< tt) in
      let high = r.2.1.0 (lit< tt) (lit< tt) in
      (ap (λ (l : List ℕ). get_or l 0 0) (sym r.2.1.1), λ q. omega (arith, loaded q))

  range_known : (high low b v y z : ℕ) (rest : List Slot) (m : List ℕ)
      → Replay memory n (filled_from memory b (range_test n high low rest)) (v ∷ y ∷ z ∷ []) m
      → (v ≤ high) × (low ≤ v) × Replay memory n (filled_from memory (b + 4) rest) (v ∷ high ∷ low ∷ []) m
  range_known high low b v y z rest m r =
      let next : suc (suc (suc (suc b))) ≡ b + 4 = omega arith in (
        r.0 (lit< tt) (lit< tt),
        r.1.0 (lit< tt) (lit< tt),
        subst (λ (x : ℕ). Replay memory n (filled_from memory x rest) (v ∷ high ∷ low ∷ []) m) next r.1.1,
      )

-- at the jmp of a guarded jump: where r0 is in code the word there is the set's ID, and with memory guards it is in code
pub record JumpKnown (t : Technique) (memory : List ℕ) (n id : ℕ) (m : List ℕ) : Type 0 where
  pub word_there : get_or m 0 0 < n → get_or memory (get_or m 0 0) 0 ≡ id
  pub bounded : t ≡ Technique.MemoryGuards → get_or m 0 0 < n

-- the place of the jmp in its guard
abbrev pub jmp_place : Technique → ℕ
jmp_place Technique.Plain = 5
jmp_place Technique.MemoryGuards = 9

pub jmp_place_lem : (t : Technique) (n id : ℕ) → length (jump_guard t n id) ≡ jmp_place t + 1
jmp_place_lem Technique.Plain n id = refl
jmp_place_lem Technique.MemoryGuards n id = refl

-- what stands there jumps by r0 itself, and not by the register that r0 was copied from
pub jmp_there : (t : Technique) (memory : List ℕ) (n id b : ℕ) → stands_at memory b (jump_guard t n id) ≡ true
    → instr_at memory (b + jmp_place t) ≡ Instr.Jmp 0
jmp_there Technique.Plain memory n id b e =
    fits_filled _ _ (slot_fits memory b (jump_guard Technique.Plain n id) e 5 (omega arith))
jmp_there Technique.MemoryGuards memory n id b e =
    fits_filled _ _ (slot_fits memory b (jump_guard Technique.MemoryGuards n id) e 9 (omega arith))

pub jump_known : (t : Technique) (memory : List ℕ) (n id b : ℕ) (m : List ℕ) → 1 ≤ n
    → stands_at memory b (jump_guard t n id) ≡ true → Fallen memory n b (jmp_place t) m → JumpKnown t memory n id m
jump_known Technique.Plain memory n id b m some e f =
    let words = ap (λ (is : List Instr). take 5 is) (words_filled memory b (jump_guard Technique.Plain n id) e) in
    let r = subst (λ (is : List Instr). Replay memory n is (f.x ∷ f.y ∷ f.z ∷ []) m) words f.replayed in
    let k = label_known memory n id b r.0 f.y f.z m r.1 in
    record { word_there = rw k.0 k.1; bounded = λ u. clash (cc) }
jump_known Technique.MemoryGuards memory n id b m some e f =
    let words = ap (λ (is : List Instr). take 9 is) (words_filled memory b (jump_guard Technique.MemoryGuards n id) e) in
    let r = subst (λ (is : List Instr). Replay memory n is (f.x ∷ f.y ∷ f.z ∷ []) m) words f.replayed in
    let g = range_known memory n _ _ b r.0 f.y f.z (label_test n id []) m r.1 in
    let k = label_known memory n id b r.0 (n - 1) 0 m g.2 in
    record { word_there = rw k.0 k.1; bounded = λ u. omega (arith, k.0, g.0) }

-- at the st of a guarded store: it stores at r0 itself, and r0 is in data
pub st_there : (memory : List ℕ) (n b : ℕ) → stands_at memory b (store_guard n (length memory)) ≡ true
    → (rs : ℕ) × (instr_at memory (b + 5) ≡ Instr.St 0 rs 0)
st_there memory n b e = (_, fits_filled _ _ (slot_fits memory b (store_guard n (length memory)) e 5 (omega arith)))

pub store_known : (memory : List ℕ) (n b : ℕ) (m : List ℕ) → stands_at memory b (store_guard n (length memory)) ≡ true
    → Fallen memory n b 5 m → (get_or m 0 0 ≤ length memory - 1) × (n ≤ get_or m 0 0)
store_known memory n b m e f =
    let words = ap (λ (is : List Instr). take 5 is) (words_filled memory b (store_guard n (length memory)) e) in
    let r = subst (λ (is : List Instr). Replay memory n is (f.x ∷ f.y ∷ f.z ∷ []) m) words f.replayed in
    let g = range_known memory n _ _ b r.0 f.y f.z [] m r.1 in
    let same : r.0 ≡ get_or m 0 0 = ap (λ (l : List ℕ). get_or l 0 0) g.2 in
    (omega (arith, g.0), omega (arith, g.1))

-- no word of a guard is of this kind
abbrev pub lacks : Kind → List Slot → Bool
lacks kind [] = true
lacks kind (s ∷ slots) = not (is_kind kind s.instr) && lacks kind slots

-- none is a label, and none a call
pub jump_lacks : (t : Technique) (n id : ℕ) → (lacks Kind.Label (jump_guard t n id) ≡ true) × (lacks Kind.Call (jump_guard t n id) ≡ true)
jump_lacks Technique.Plain n id = (refl, refl)
jump_lacks Technique.MemoryGuards n id = (refl, refl)

pub store_lacks : (n len : ℕ) → (lacks Kind.Label (store_guard n len) ≡ true) × (lacks Kind.Call (store_guard n len) ≡ true)
store_lacks n len = (refl, refl)

slot_lacks : (kind : Kind) (slots : List Slot) → lacks kind slots ≡ true → (k : ℕ) → k < length slots → (i : Instr)
    → fits (get_or slots k (just Instr.Illegal)) i ≡ true → is_kind kind i ≡ true → ⊥
unfolding fits
slot_lacks kind [] e k h i f q = omega arith
slot_lacks kind (s ∷ slots) e zero h i f q =
    let same : (fields_of s.instr).kind ≡ (fields_of i).kind = (agrees (fields_of s.instr) (fields_of i) _ _ f).kind in
    true_false (ap (same_kind kind) same ∙ q) (not-true _ (and_left (not (is_kind kind s.instr)) _ e))
slot_lacks kind (s ∷ slots) e (suc k) h i f q = slot_lacks kind slots (and_right (not (is_kind kind s.instr)) _ e) k (omega arith) i f q

pub word_lacks : (kind : Kind) (memory : List ℕ) (b : ℕ) (slots : List Slot) → stands_at memory b slots ≡ true → lacks kind slots ≡ true
    → (k : ℕ) → k < length slots → is_kind kind (instr_at memory (b + k)) ≡ true → ⊥
word_lacks kind memory b slots stands none k h q = slot_lacks kind slots none k h (instr_at memory (b + k)) (slot_fits memory b slots stands k h) q
