-- What the invariant gives at a word of accepted code: falling through takes each guard one word further; at a jmp its guard has shown
-- that it finds the label of its set, so that it goes to a member; at a st its guard has shown that it goes to data; the word after a
-- call is in code.
use Prim.Native.Nat.{ℕ, zero, suc, ◌+◌, ◌-◌, ◌^◌, ◌≤◌, ◌<◌}
use mathlib.Core.Path.{◌≡◌, refl, sym, ap, subst, ◌∙◌}
use mathlib.Core.Bool.{true}
use mathlib.Core.List.{List}
use native.Mathlib.Omega.{arith}
use native.Mathlib.Decide.{dec_lt}
use lib.Dec.{lit<}
use lib.ListN.{length, get_or, take}
use lib.Seq.{get_or-take}
use borrow.Author.Tests.{ltb-true}
use Rattle.lists.proofs.Bools.{clash, and_left, true_false}
use Rattle.answers.proofs.Shape.{Shaped, shaped}
use Rattle.isa.specs.declared.Instr.{Instr}
use Rattle.isa.specs.declared.Technique.{Technique}
use Rattle.isa.specs.Words.{decode_of}
use Rattle.isa.specs.Instructions.{instr_at, is_call}
use Rattle.isa.proofs.Words.{round_trips}
use Rattle.addresses.specs.Addresses.{address_of}
use Rattle.machine.specs.Steps.{next_allowed, reg_of}
use Rattle.graph.specs.Claim.{id_of, is_return}
use Rattle.graph.proofs.Returns.{after_call}
use Rattle.guards.specs.declared.Slot.{Slot}
use Rattle.guards.specs.Sequences.{jump_guard, store_guard}
use Rattle.guards.proofs.Replay.{view, Falls, Fallen, fallen_none, fallen_more}
use Rattle.guards.proofs.Known.{JumpKnown, jmp_place, jmp_place_lem, jump_known, st_there, store_known}
use Rattle.checker.specs.Conditions.{Listed, IsId, EndsWith, InnerWord, StoresGuarded, OutsideStoreGuards, Conditions}
use Rattle.checker.proofs.Listed.{id_found}
use Rattle.checker.proofs.Equivalence.{jump_last}
use Rattle.integrity.specs.Calls.{Config}
use Rattle.integrity.proofs.Inside.{Guard, of_jump, of_store, Inside, Inv}

-- all that is asked of the decoder: "The word of label w is the number w"
label_decodes : (w : ℕ) → w < 2 ^ 32 → decode_of w ≡ Instr.Label w
label_decodes w h = ap decode_of (sym (round_trips.label_word w)) ∙ round_trips.instruction_back (Instr.Label w) tt h

-- the checked word at an address of code
pub word_same : (m memory : List ℕ) (n a : ℕ) → take n m ≡ take n memory → a < n → get_or m a 0 ≡ get_or memory a 0
word_same m memory n a e h =
    sym (get_or-take n m a 0 h) ∙ ap (λ (l : List ℕ). get_or l a 0) e ∙ get_or-take n memory a 0 h

-- where a jmp is let go is in code: plain, by the step's own test; with memory guards, by what its guard has shown
pub in_bounds : (t : Technique) (n q : ℕ) → next_allowed t n q ≡ true → (t ≡ Technique.MemoryGuards → q < n) → q < n
in_bounds Technique.Plain n q e h = ltb-true q n e
in_bounds Technique.MemoryGuards n q e h = h refl

pub not_inner : (t : Technique) (memory : List ℕ) (n : ℕ) (edges : List ℕ) (w : ℕ)
    → ((j id : ℕ) → j < n → IsId edges j id → InnerWord memory (jump_guard t n id) j w → ⊥) → OutsideStoreGuards t memory n edges t w
    → (a : ℕ) (slots : List Slot) → a < n → Guard t memory n edges a slots → InnerWord memory slots a w → ⊥
not_inner t memory n edges w j s a _ h (of_jump _ id d) i = j a id h d i
not_inner t memory n edges w j s a _ h (of_store _ e) i =
    let out = subst (λ (u : Technique). OutsideStoreGuards t memory n edges u w) e s in out a h i

module _ (t : Technique) (memory : List ℕ) (n : ℕ) (edges : List ℕ) (ok : Conditions t memory n edges) (c : Config)
    (inv : Inv t memory n edges c) where
  abbrev pc : ℕ
  pc = c.state.pc

  abbrev regs : List ℕ
  regs = c.state.regs

  pub sizes : Shaped (length memory) n
  sizes = shaped (length memory) n (and_left _ _ ok.shape)

  -- the last word is illegal, and so no call
  pub return_in : (q : ℕ) → is_return memory n q ≡ true → q < n
  return_in q e = go (dec_lt q n)
    where
      go : Dec (q < n) → q < n
      go (yes h) = h
      go (no h) =
          let r = after_call memory n q e in
          let last : n - 1 ≡ r.call = omega (arith, r.in_code, r.next) in
          absurd
          (true_false r.calls (ap (λ (a : ℕ). is_call (instr_at memory a)) (sym last) ∙ ap is_call ok.instrumented.last_illegal))

  fallen_here : (a : ℕ) (slots : List Slot) → a < n → Guard t memory n edges a slots → (e : EndsWith memory slots a) (k : ℕ)
      → k < length slots → pc ≡ e.first + k → Fallen memory n e.first k (view regs)
  fallen_here a slots h g e zero l p = fallen_none memory n e.first regs (omega (arith, inv.registers))
  fallen_here a slots h g e (suc k) l p =
      inv.fallen
      (record { last = a; in_code = h; slots = slots; guard = g; ends = e; offset = suc k; past = omega arith; within = l; here = p })

  pub fallen_next : (m : List ℕ) → Falls memory n (instr_at memory pc) (λ x. x ≡ m) (view regs) → (p : Inside t memory n edges (pc + 1))
      → Fallen memory n p.ends.first p.offset m
  fallen_next m f p = go p.offset p.past p.within p.here
    where
      go : (k : ℕ) → 1 ≤ k → k < length p.slots → pc + 1 ≡ p.ends.first + k → Fallen memory n p.ends.first k m
      go zero h l e = clash (omega arith)
      go (suc k) h l e =
          let here : pc ≡ p.ends.first + k = omega arith in
          let before = fallen_here p.last p.slots p.in_code p.guard p.ends k (omega arith) here in
          fallen_more memory n p.ends.first k (view regs) m before (rw (← here) f)

  -- at a jmp
  jump_id : (rs : ℕ) → instr_at memory pc ≡ Instr.Jmp rs → IsId edges pc (id_of edges n pc)
  jump_id rs e =
      let l = ok.graph.jumps_have_successors pc rs inv.in_code e in
      id_found edges n pc l.0 l.1 (ok.graph.edges_end_in_code pc l.0 l.1)

  jump_here : (rs : ℕ) → instr_at memory pc ≡ Instr.Jmp rs → (rs ≡ 0) × JumpKnown t memory n (id_of edges n pc) (view regs)
  jump_here rs e =
      let d = jump_id rs e in
      let id = id_of edges n pc in
      let g = ok.instrumented.jumps_guarded pc rs id inv.in_code e d in
      let size = jmp_place_lem t n id in
      let same : Instr.Jmp rs ≡ Instr.Jmp 0 = sym e ∙ jump_last t memory n id pc g in
      let here : pc ≡ g.first + jmp_place t = omega (arith, size, g.last) in
      let fallen = fallen_here pc (jump_guard t n id) inv.in_code (of_jump pc id d) g (jmp_place t) (omega (arith, size)) here in
      ((cc), jump_known t memory n id g.first (view regs) sizes.some_code g.stands fallen)

  -- r0 as the guard knows it is where the jmp goes
  jump_to : (rs : ℕ) → rs ≡ 0 → get_or (view regs) 0 0 ≡ reg_of c.state rs
  jump_to rs z = rw z (get_or-take 3 regs 0 0 (lit< tt))

  pub jump_aims : (rs : ℕ) → instr_at memory pc ≡ Instr.Jmp rs → t ≡ Technique.MemoryGuards → reg_of c.state rs < n
  jump_aims rs e u =
      let k = jump_here rs e in
      subst (λ (x : ℕ). x < n) (jump_to rs k.0) (k.1.bounded u)

  -- where it goes it finds the label of its set, so it goes to a member of it
  pub jump_lands : (rs : ℕ) → instr_at memory pc ≡ Instr.Jmp rs → reg_of c.state rs < n
      → (instr_at memory (reg_of c.state rs) ≡ Instr.Label (id_of edges n pc)) × Listed edges pc (reg_of c.state rs)
  jump_lands rs e h =
      let id = id_of edges n pc in
      let q = reg_of c.state rs in
      let k = jump_here rs e in
      let d = jump_id rs e in
      let word = subst (λ (x : ℕ). x < n → get_or memory x 0 ≡ id) (jump_to rs k.0) k.1.word_there h in
      let small : id < 2 ^ 32 = omega (arith, ok.graph.edges_end_in_code pc id d.member, sizes.code_limit) in
      let label : instr_at memory q ≡ Instr.Label id = ap decode_of word ∙ label_decodes id small in
      let from = ok.instrumented.labels_at_destinations q id h label in
      let its = id_found edges n from.0 q from.1 h in
      let labelled = ok.instrumented.destinations_labelled from.0 q (id_of edges n from.0) from.1 its in
      let both : Instr.Label (id_of edges n from.0) ≡ Instr.Label id = sym labelled ∙ label in
      let same : id_of edges n from.0 ≡ id = cc in
      let member : Listed edges from.0 id = subst (λ (x : ℕ). Listed edges from.0 x) same its.member in
      (label, ok.graph.sets_equal_or_apart from.0 pc id member d.member q from.1)

  -- at a st, with memory guards
  pub store_here : t ≡ Technique.MemoryGuards → (rd rs w : ℕ) → instr_at memory pc ≡ Instr.St rd rs w
      → (n ≤ address_of (reg_of c.state rd) w) × (address_of (reg_of c.state rd) w < length memory)
  store_here u rd rs w e =
      let guarded = subst (λ (x : Technique). StoresGuarded t memory n edges x) u ok.instrumented.stores_guarded in
      let g = (guarded pc rd rs w inv.in_code e).1 in
      let slots = store_guard n (length memory) in
      let last : g.first + 5 ≡ pc = omega (arith, g.last) in
      let form = st_there memory n g.first g.stands in
      let fallen = fallen_here pc slots inv.in_code (of_store pc u) g 5 (omega arith) (sym last) in
      go (sym e ∙ ap (instr_at memory) (sym last) ∙ form.1) (store_known memory n g.first (view regs) g.stands fallen)
    where
      go : {r : ℕ} → Instr.St rd rs w ≡ Instr.St 0 r 0 → (get_or (view regs) 0 0 ≤ length memory - 1) × (n ≤ get_or (view regs) 0 0)
          → (n ≤ address_of (reg_of c.state rd) w) × (address_of (reg_of c.state rd) w < length memory)
      go q k =
          let rd0 : rd ≡ 0 = cc in
          let w0 : w ≡ 0 = cc in
          let same = get_or-take 3 regs 0 0 (lit< tt) in
          rw (rd0, w0) (omega (arith, k.1), omega (arith, k.0, sizes.some_code, sizes.within))
