-- What the rewriter gives meets the published conditions, for both techniques: the claim's from those of the bare claim, the code's each by
-- reading the roles of its words. A branch leads to HALT or to a front, and no front is an inner word of a guard.
use Prim.Native.Nat.{ℕ, suc, ◌+◌, ◌-◌, ◌%◌, ◌<◌}
use mathlib.Core.Path.{◌≡◌, sym, ap, subst, ◌∙◌}
use mathlib.Core.Bool.{Bool, true}
use mathlib.Core.Logic.{inl, inr}
use Rattle.std.specs.Prelude.{Some}
use mathlib.Core.List.{List}
use native.Mathlib.Omega.{arith}
use lib.ListN.{length}
use borrow.Author.Tests.{eqb-true, le-leb}
use Rattle.lists.proofs.Bools.{and_left, both_true}
use Rattle.answers.specs.Shape.{edges_shaped, call_shaped}
use Rattle.isa.specs.declared.Instr.{Instr}
use Rattle.isa.specs.declared.Technique.{Technique}
use Rattle.isa.specs.Words.{decode_of}
use Rattle.isa.specs.Instructions.{instr_at, is_jump, is_branch, branch_target}
use Rattle.isa.proofs.Words.{round_trips}
use Rattle.graph.specs.Claim.{id_of}
use Rattle.guards.specs.declared.Slot.{Slot}
use Rattle.guards.specs.Sequences.{jump_guard, store_guard}
use Rattle.guards.proofs.Known.{st_there}
use Rattle.checker.specs.Conditions.{Listed, IsId, EndsWith, InnerWord, StoresGuarded, OutsideStoreGuards, Graph, Conditions}
use Rattle.checker.proofs.Listed.{destination_listed, listed_destination}
use Rattle.checker.proofs.Readings.{jump_instr}
use Rattle.checker.proofs.Equivalence.{jump_last}
use Rattle.guarded.specs.Rewrite.{body_size, map_of, new_length, new_jump, new_edges}
use Rattle.guarded.specs.Theorems.{Rewritable, new_memory}
use Rattle.guarded.proofs.Cases.{target_of_lem}
use Rattle.guarded.proofs.Places.{jump_size, store_size, memory_length, map_le, map_lt, map_inverse, map_same, body_ends, last_word}
use Rattle.guarded.proofs.Claims.{edges_length, jump_next, jump_same, rises, new_listed, moved, set_id, new_id}
use Rattle.guarded.proofs.Roles.{held, EndAt, is_guarded_store, Front, Role}
use Rattle.guarded.proofs.NewWords.{label_back, jump_ends, store_ends, role}

module _ (t : Technique) (bare : List ℕ) (n : ℕ) (edges : List ℕ) where
  -- a front is in code, and no word of a block but its first
  front_below : (w : ℕ) → Front t bare n edges w → w < new_length t bare n edges
  front_below w (inl e) = omega arith
  front_below w (inr (x, h, e)) = let l = map_lt t bare edges x n h in omega arith

  no_inner : (w a : ℕ) → Front t bare n edges w → a < n → map_of t bare edges a < w → w < map_of t bare edges (suc a) → ⊥
  no_inner w a (inl e) h lo hi = let l = map_le t bare edges (suc a) n h in omega arith
  no_inner w a (inr (x, g, e)) h lo hi =
      let l = map_inverse t bare edges a x (omega arith) in let m = map_le t bare edges (suc a) x l in omega arith

module _ (t : Technique) (bare : List ℕ) (n : ℕ) (edges values : List ℕ) (ok : Rewritable t bare n edges (length values)) where
  abbrev memory : List ℕ
  memory = new_memory t bare n edges values

  abbrev N : ℕ
  N = new_length t bare n edges

  abbrev claim : List ℕ
  claim = new_edges t bare edges

  abbrev new : ℕ → ℕ
  new a = map_of t bare edges a

  abbrev jump : ℕ → ℕ
  jump j = new_jump t bare edges j

  role_at : (p : ℕ) (i : Instr) → p < N → instr_at memory p ≡ i → Role t bare n edges i p
  role_at p i h e = subst (λ (x : Instr). Role t bare n edges x p) e (role t bare n edges values ok p h)

  -- ---- shape

  pub claim_length : length claim ≡ length edges
  claim_length =
      let even = eqb-true (length edges % 2) 0 (and_left _ _ ok.edges_shaped) in
      let e = edges_length t bare edges in
      omega arith

  shaped : call_shaped (length memory) N (length claim) ≡ true
  shaped =
      let m = memory_length t bare n edges values in
      let x = ok.length_limit in
      let d = ok.data_limit in
      both_true
      (both_true (le-leb 1 N (omega arith))
      (both_true (le-leb N 2048 x) (both_true (le-leb N (length memory) (omega arith)) (le-leb (length memory - N) 2048 (omega arith)))))
      (ap edges_shaped claim_length ∙ ok.edges_shaped)

  -- ---- the graph

  was_jump : (j x : ℕ) → Listed edges j x → (j < n) × (is_jump (instr_at bare j) ≡ true)
  was_jump j x l = let s = ok.graph.edges_start_at_jumps j x l in (s.0, ap is_jump s.1.1)

  starts : (J A : ℕ) → Listed claim J A → (J < N) × ((rs : ℕ) × (instr_at memory J ≡ Instr.Jmp rs))
  starts J A l =
      let m = moved t bare edges J A l in
      let s = was_jump m.j m.x m.listed in
      let b = map_le t bare edges (suc m.j) n s.0 in
      let e = m.jump in
      let i = jump_last t memory N _ (jump m.j) (jump_ends t bare n edges values ok m.j s.0 s.1) in
      (omega arith, (0, ap (instr_at memory) e ∙ i))

  arrives : (J A : ℕ) → Listed claim J A → A < N
  arrives J A l =
      let m = moved t bare edges J A l in
      let b = map_lt t bare edges m.x n (ok.graph.edges_end_in_code m.j m.x m.listed) in
      let e = m.target in
      omega arith

  led : (a : ℕ) → a < n → is_jump (instr_at bare a) ≡ true → (x : ℕ) × Listed edges a x
  led a h e = let i = jump_instr (instr_at bare a) e in ok.graph.jumps_have_successors a i.0 h i.1

  leaves : (J rs : ℕ) → J < N → instr_at memory J ≡ Instr.Jmp rs → (A : ℕ) × Listed claim J A
  leaves J rs h e =
      let r = (role_at J (Instr.Jmp rs) h e).1 in
      let s = led r.a r.below r.was in
      (new s.0, subst (λ (j : ℕ). Listed claim j (new s.0)) (sym r.here) (new_listed t bare edges r.a s.0 s.1))

  sets : (I J A : ℕ) → Listed claim I A → Listed claim J A → (B : ℕ) → Listed claim I B → Listed claim J B
  sets I J A ia ja B ib =
      let p = moved t bare edges I A ia in
      let q = moved t bare edges J A ja in
      let r = moved t bare edges I B ib in
      let x : q.x ≡ p.x = map_same t bare edges q.x p.x (sym q.target ∙ p.target) in
      let j : r.j ≡ p.j = jump_same t bare edges r.j p.j (sym r.jump ∙ p.jump) in
      let qx : Listed edges q.j p.x = subst (Listed edges q.j) x q.listed in
      let rj : Listed edges p.j r.x = subst (λ (k : ℕ). Listed edges k r.x) j r.listed in
      let l = new_listed t bare edges q.j r.x (ok.graph.sets_equal_or_apart p.j q.j p.x p.listed qx r.x rj) in
      subst (λ (k : ℕ). Listed claim k B) (sym q.jump) (subst (Listed claim (jump q.j)) (sym r.target) l)

  graph : Graph t memory N claim
  graph =
      record { edges_start_at_jumps = starts; edges_end_in_code = arrives; jumps_have_successors = leaves; sets_equal_or_apart = sets }

  -- ---- labels

  id_is : (J id j x : ℕ) → J ≡ jump j → Listed edges j x → IsId claim J id → id ≡ new (id_of edges n j)
  id_is J id j x e l d = new_id t bare n edges ok.graph j x id l (subst (λ (k : ℕ). IsId claim k id) e d)

  labelled : (J A id : ℕ) → Listed claim J A → IsId claim J id → instr_at memory A ≡ Instr.Label id
  labelled J A id l d =
      let m = moved t bare edges J A l in
      ap (instr_at memory) m.target
      ∙ label_back t bare n edges values ok m.x (ok.graph.edges_end_in_code m.j m.x m.listed)
      (listed_destination edges m.j m.x m.listed)
      ∙ ap (λ (x : ℕ). Instr.Label (new x)) (set_id t bare n edges ok.graph m.j m.x m.listed)
      ∙ ap Instr.Label (sym (id_is J id m.j m.x m.jump m.listed d))

  destination : (A w : ℕ) → A < N → instr_at memory A ≡ Instr.Label w → (J : ℕ) × Listed claim J A
  destination A w h e =
      let r = (role_at A (Instr.Label w) h e).0 in
      let l = destination_listed edges r.a r.destination in
      (jump l.0, subst (Listed claim (jump l.0)) (sym r.here) (new_listed t bare edges l.0 r.a l.1))

  -- ---- guards

  jumps : (J rs id : ℕ) → J < N → instr_at memory J ≡ Instr.Jmp rs → IsId claim J id → EndsWith memory (jump_guard t N id) J
  jumps J rs id h e d =
      let r = (role_at J (Instr.Jmp rs) h e).1 in
      let s = led r.a r.below r.was in
      subst (EndsWith memory (jump_guard t N id)) (sym r.here)
      (subst (λ (x : ℕ). EndsWith memory (jump_guard t N x) (jump r.a)) (sym (id_is J id r.a s.0 r.here s.1 d))
      (jump_ends t bare n edges values ok r.a r.below r.was))

  -- ---- branches

  front : (p w : ℕ) → p < N → branch_target (instr_at memory p) ≡ Some w → Front t bare n edges w
  front p w h e =
      let b = target_of_lem (instr_at memory p) w e in
      subst (Front t bare n edges) b.1 (held (is_branch (instr_at memory p)) _ b.0 (role t bare n edges values ok p h).3)

  -- a front is no inner word of a guard that fills the body of a block
  guard_outside : (test : Instr → Bool) (slots : List Slot) (w p : ℕ) → Front t bare n edges w → (r : EndAt t bare n edges test p)
      → length slots ≡ body_size t (instr_at bare r.a) → InnerWord memory slots p w → ⊥
  guard_outside test slots w p f r size i =
      let z = body_ends t bare n edges values r.a in
      let j = jump_next t bare edges r.a in
      let e = r.here in
      let l = i.ends.last in
      let lo = i.after_first in
      let hi = i.up_to_last in
      no_inner t bare n edges w r.a f r.below (omega arith) (omega arith)

  outside_jumps : (w : ℕ) → Front t bare n edges w → (J id : ℕ) → J < N → IsId claim J id → InnerWord memory (jump_guard t N id) J w → ⊥
  outside_jumps w f J id h d i =
      let r = (role_at J (Instr.Jmp 0) h (jump_last t memory N id J i.ends)).1 in
      guard_outside is_jump (jump_guard t N id) w J f r (jump_size t N (instr_at bare r.a) id r.was) i

  -- ---- stores

  abbrev guard : List Slot
  guard = store_guard N (length memory)

  store_guarded : (p : ℕ) → EndAt t bare n edges (is_guarded_store t bare n edges) p → (N < length memory) × EndsWith memory guard p
  store_guarded p r =
      let m = memory_length t bare n edges values in
      let d = ok.data_for_stores r.a r.below r.was in
      (omega arith, subst (EndsWith memory guard) (sym r.here) (store_ends t bare n edges values ok r.a r.below r.was))

  store_last : (p : ℕ) → EndsWith memory guard p → (rs : ℕ) × (instr_at memory p ≡ Instr.St 0 rs 0)
  store_last p e =
      let s = st_there memory N e.first e.stands in
      let z : p ≡ e.first + 5 = let l = e.last in omega arith in
      (s.0, ap (instr_at memory) z ∙ s.1)

-- asked with memory guards only
module _ (bare : List ℕ) (n : ℕ) (edges values : List ℕ) where
  stores_guarded : (t : Technique) → Rewritable t bare n edges (length values)
      → StoresGuarded t (new_memory t bare n edges values) (new_length t bare n edges) (new_edges t bare edges) t
  stores_guarded Technique.Plain ok = tt
  stores_guarded Technique.MemoryGuards ok = λ p rd rs w h e.
      let t = Technique.MemoryGuards in
      store_guarded t bare n edges values ok p (role_at t bare n edges values ok p (Instr.St rd rs w) h e).2

  outside_stores : (t : Technique) → Rewritable t bare n edges (length values) → (w : ℕ) → Front t bare n edges w
      → OutsideStoreGuards t (new_memory t bare n edges values) (new_length t bare n edges) (new_edges t bare edges) t w
  outside_stores Technique.Plain ok w f = tt
  outside_stores Technique.MemoryGuards ok w f = λ p h i.
      let t = Technique.MemoryGuards in
      let s = store_last t bare n edges values ok p i.ends in
      let r = (role_at t bare n edges values ok p (Instr.St 0 s.0 0) h s.1).2 in
      guard_outside t bare n edges values ok _ _ w p f r (store_size t 0 (instr_at bare r.a) 0 r.was) i

pub conditions : (t : Technique) (bare : List ℕ) (n : ℕ) (edges values : List ℕ) → Rewritable t bare n edges (length values)
    → Conditions t (new_memory t bare n edges values) (new_length t bare n edges) (new_edges t bare edges)
conditions t bare n edges values ok =
    record {
      shape = shaped t bare n edges values ok;
      graph = graph t bare n edges values ok;
      edges_rise = rises t bare edges ok.edges_rise;
      instrumented =
          record {
            last_illegal = ap decode_of (last_word t bare n edges values) ∙ round_trips.all_bits_set;
            destinations_labelled = labelled t bare n edges values ok;
            labels_at_destinations = destination t bare n edges values ok;
            stores_guarded = stores_guarded bare n edges values t ok;
            jumps_guarded = jumps t bare n edges values ok;
            targets_in_code = λ a w h e. front_below t bare n edges w (front t bare n edges values ok a w h e);
            targets_outside_guards = λ a w h e.
                let f = front t bare n edges values ok a w h e in
                (outside_jumps t bare n edges values ok w f, outside_stores bare n edges values t ok w f);
          };
    }
