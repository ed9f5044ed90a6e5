-- The verdict is Accepted exactly where the published conditions hold: rule by rule, each test as the fact it tests.
use Prim.Native.Nat.{ℕ, ◌+◌, ◌-◌, ◌<◌}
use mathlib.Core.Path.{◌≡◌, refl, sym, ap, subst, ◌∙◌}
use mathlib.Core.Logic.{◌⊎◌, inl, inr}
use mathlib.Core.Bool.{Bool, true, false, not, ◌&&◌, ◌||◌}
use Rattle.std.specs.Prelude.{Option, None, Some}
use mathlib.Core.List.{List}
use native.Mathlib.Omega.{arith}
use lib.ListN.{length}
use lib.Dec.{ltb, leb, eqb}
use borrow.Author.Tests.{ltb-true, lt-ltb, leb-true, leb-false, le-leb, lt-leb, eqb-true, eq-eqb, not-true, not-false}
use Rattle.lists.specs.Search.{any}
use Rattle.lists.proofs.Bools.{and_left, and_right, and_rest, or_left, or_right, both_true, same_bool, true_false, refuted, either}
use Rattle.lists.proofs.Search.{any_witness, any_none}
use Rattle.isa.specs.declared.Instr.{Instr}
use Rattle.isa.specs.declared.Technique.{Technique}
use Rattle.isa.specs.Instructions.{instr_at, is_illegal, is_jump, is_store, label_number, branch_target}
use Rattle.graph.specs.Claim.{edge_count, jump_of, target_of, is_edge, is_destination, id_of}
use Rattle.graph.specs.Rules.{lacks_edge, is_label, is_label_of, label_wrong}
use Rattle.rising.proofs.Rising.{clean_rising, rising_clean}
use Rattle.guards.specs.declared.Slot.{Slot}
use Rattle.guards.specs.Sequences.{jump_guard, store_guard, ends_at}
use Rattle.guards.specs.Rules.{store_unguarded, jump_unguarded, inside_ending, target_wrong_if_any, branch_wrong}
use Rattle.guards.proofs.Known.{jmp_place, jmp_place_lem, jmp_there}
use Rattle.guards.proofs.Targets.{TargetRight, target_right, right_target}
use Rattle.graph.proofs.Apart.{OneIfMeeting, apart_one, one_apart}
use Rattle.checker.specs.Conditions.{Listed, IsId, EndsWith, InnerWord, Graph, StoresGuarded, OutsideStoreGuards, Conditions}
use Rattle.checker.specs.Theorems.{AcceptedExactly}
use Rattle.checker.proofs.Listed.{
  edge_listed,
  listed_edge,
  has_listed,
  listed_has,
  destination_listed,
  listed_destination,
  place_listed,
  id_found,
  id_same,
}
use Rattle.checker.proofs.Readings.{jump_instr, store_instr, label_instr, label_of_is, illegal_instr}
use Rattle.checker.proofs.Faultless.{ClaimFaultless, Faultless, accepted_faultless, faultless_accepted}

-- sequences, as tests and as facts
module _ (memory : List ℕ) (slots : List Slot) where
  ends_with : (a : ℕ) → ends_at memory slots a ≡ true → EndsWith memory slots a
  unfolding ends_at
  ends_with a e =
      let l = leb-true (length slots) (a + 1) (and_left _ _ e) in
      record {
        first = a + 1 - length slots;
        last = omega arith;
        stands = and_right (leb (length slots) (a + 1)) _ e;
      }

  with_ends : (a : ℕ) → EndsWith memory slots a → ends_at memory slots a ≡ true
  unfolding ends_at
  with_ends a w =
      let z : a + 1 - length slots ≡ w.first = omega (arith, w.last) in
      both_true (le-leb (length slots) (a + 1) (omega (arith, w.last))) (rw z w.stands)

  inside_inner : (w a : ℕ) → inside_ending memory slots w a ≡ true → InnerWord memory slots a w
  unfolding ends_at
  inside_inner w a e =
      let ends = ends_with a (and_left _ _ e) in
      let rest = and_right (ends_at memory slots a) _ e in
      let past = ltb-true (a + 1) (w + length slots) (and_right (leb w a) _ rest) in
      record {
        ends = ends;
        after_first = omega (arith, ends.last);
        up_to_last = leb-true w a (and_left _ _ rest);
      }

  inner_inside : (w a : ℕ) → InnerWord memory slots a w → inside_ending memory slots w a ≡ true
  inner_inside w a i =
      both_true
      (with_ends a i.ends)
      (both_true
      (le-leb w a i.up_to_last)
      (lt-ltb (a + 1) (w + length slots) (omega (arith, i.ends.last, i.after_first))))

-- the last word of a jump's sequence is a jmp
pub jump_last : (t : Technique) (memory : List ℕ) (n id a : ℕ) → EndsWith memory (jump_guard t n id) a → instr_at memory a ≡ Instr.Jmp 0
jump_last t memory n id a e =
    let z : e.first + jmp_place t ≡ a = omega (arith, jmp_place_lem t n id, e.last) in rw z at (jmp_there t memory n id e.first e.stands)

-- edge k ends at a, and the word there is not the label of its set
abbrev unlabelled : List ℕ → ℕ → List ℕ → ℕ → ℕ → Bool
unlabelled memory n edges a k =
    eqb (target_of edges k) a && not (is_label_of (label_number (instr_at memory a)) (id_of edges n (jump_of edges k)))

abbrev any_unlabelled : List ℕ → ℕ → List ℕ → ℕ → Bool
any_unlabelled memory n edges a = any (unlabelled memory n edges a) (edge_count edges)

-- what the rules about the graph leave
module _ (memory : List ℕ) (n : ℕ) (edges : List ℕ) (ok : ClaimFaultless memory n edges) where
  starts : (j a : ℕ) → Listed edges j a → (j < n) × ((rs : ℕ) × (instr_at memory j ≡ Instr.Jmp rs))
  starts j a l =
      let e : (leb n j || not (is_jump (instr_at memory j))) ≡ false = rw (← l.jump) (ok.edges_start l.place l.within) in
      (leb-false n j (or_left _ _ e), jump_instr (instr_at memory j) (not-false _ (or_right (leb n j) _ e)))

  arrives : (j a : ℕ) → Listed edges j a → a < n
  arrives j a l =
      let e : leb n a ≡ false = rw (← l.target) (ok.edges_end l.place l.within) in leb-false n a e

  id_is : (j id : ℕ) → IsId edges j id → id_of edges n j ≡ id
  id_is j id d = id_same edges j (id_of edges n j) id (id_found edges n j id d.member (arrives j id d.member)) d

  leaves : (j rs : ℕ) → j < n → instr_at memory j ≡ Instr.Jmp rs → (a : ℕ) × Listed edges j a
  leaves j rs h e =
      has_listed edges j (not-false _ (and_rest (is_jump (instr_at memory j)) _ (ap is_jump e) (ok.jumps_leave j h)))

  sets : (i j a : ℕ) → Listed edges i a → Listed edges j a → (b : ℕ) → Listed edges i b → Listed edges j b
  sets i j a ia ja b ib =
      edge_listed edges j b
      (sym (apart_one edges n i j (starts j a ja).0 (ok.sets_apart i (starts i a ia).0) a (arrives i a ia) (listed_edge edges i a ia)
      (listed_edge edges j a ja) b (arrives i b ib))
      ∙ listed_edge edges i b ib)

  pub claim_graph : (t : Technique) → Graph t memory n edges
  claim_graph t =
      record { edges_start_at_jumps = starts; edges_end_in_code = arrives; jumps_have_successors = leaves; sets_equal_or_apart = sets }

module _ (t : Technique) (memory : List ℕ) (n : ℕ) (edges : List ℕ) (ok : Faultless t memory n edges) where
  same_id : (j id : ℕ) → IsId edges j id → id_of edges n j ≡ id
  same_id = id_is memory n edges ok.claim

  labelled : (j a id : ℕ) → Listed edges j a → IsId edges j id → instr_at memory a ≡ Instr.Label id
  labelled j a id l d =
      let none = any_none (unlabelled memory n edges a) (edge_count edges) (or_left _ _ (ok.labels a (arrives memory n edges ok.claim j a l))) in
      let here = eq-eqb (target_of edges l.place) a l.target in
      let right = not-false _ (and_rest (eqb (target_of edges l.place) a) _ here (none l.place l.within)) in
      let same : id_of edges n (jump_of edges l.place) ≡ id = ap (id_of edges n) l.jump ∙ same_id j id d in
      go (label_instr (instr_at memory a) (label_of_is (label_number (instr_at memory a)) _ right)) (rw same at right)
    where
      go : (w : ℕ) × (instr_at memory a ≡ Instr.Label w) → is_label_of (label_number (instr_at memory a)) id ≡ true
          → instr_at memory a ≡ Instr.Label id
      go (w, e) right = let z : w ≡ id = eqb-true w id (rw e at right) in e ∙ ap Instr.Label z

  destination : (a w : ℕ) → a < n → instr_at memory a ≡ Instr.Label w → (j : ℕ) × Listed edges j a
  destination a w h e =
      let label = ap (λ (i : Instr). is_label (label_number i)) e in
      let rest = or_right (any_unlabelled memory n edges a) _ (ok.labels a h) in
      destination_listed edges a (not-false _ (and_rest (is_label (label_number (instr_at memory a))) _ label rest))

  stores : (u : Technique) → t ≡ u → StoresGuarded t memory n edges u
  stores Technique.Plain q = tt
  stores Technique.MemoryGuards q = λ a rd rs w h e.
      let good = not-false _ (and_rest (is_store (instr_at memory a)) _ (ap is_store e) (rw q at (ok.stores a h))) in
      (ltb-true n (length memory) (and_left _ _ good), ends_with memory _ a (and_right (ltb n (length memory)) _ good))

  jumps : (a rs id : ℕ) → a < n → instr_at memory a ≡ Instr.Jmp rs → IsId edges a id → EndsWith memory (jump_guard t n id) a
  jumps a rs id h e d =
      ends_with memory (jump_guard t n id) a
      (rw (← same_id a id d) (not-false _ (and_rest (is_jump (instr_at memory a)) _ (ap is_jump e) (ok.jumps a h))))

  out_of_jumps : (w : ℕ) → TargetRight t memory n edges w
      → (j id : ℕ) → j < n → IsId edges j id → InnerWord memory (jump_guard t n id) j w → ⊥
  out_of_jumps w r j id h d i = true_false (inner_inside memory (jump_guard t n id) w j i) (rw (same_id j id d) at (r.outside_jumps j h))

  out_of_stores : (u : Technique) → t ≡ u → (w : ℕ) → TargetRight t memory n edges w → OutsideStoreGuards t memory n edges u w
  out_of_stores Technique.Plain q w r = tt
  out_of_stores Technique.MemoryGuards q w r =
      λ a h i. true_false (inner_inside memory (store_guard n (length memory)) w a i) (r.outside_stores q a h)

  right_here : (a w : ℕ) → a < n → branch_target (instr_at memory a) ≡ Some w → TargetRight t memory n edges w
  right_here a w h e = target_right memory n edges w t (rw e at (ok.branches a h))

  faultless_conditions : Conditions t memory n edges
  faultless_conditions =
      record {
        shape = ok.claim.shape;
        graph = claim_graph memory n edges ok.claim t;
        edges_rise = clean_rising edges ok.claim.edges_rise;
        instrumented =
            record {
              last_illegal = illegal_instr (instr_at memory (n - 1)) ok.last_illegal;
              destinations_labelled = labelled;
              labels_at_destinations = destination;
              stores_guarded = stores t refl;
              jumps_guarded = jumps;
              targets_in_code = λ a w h e. (right_here a w h e).in_code;
              targets_outside_guards = λ a w h e. (out_of_jumps w (right_here a w h e), out_of_stores t refl w (right_here a w h e));
            };
      }

module _ (t : Technique) (memory : List ℕ) (n : ℕ) (edges : List ℕ) (c : Conditions t memory n edges) where
  jump_id : (a rs : ℕ) → a < n → instr_at memory a ≡ Instr.Jmp rs → IsId edges a (id_of edges n a)
  jump_id a rs h e =
      let l = c.graph.jumps_have_successors a rs h e in
      id_found edges n a l.0 l.1 (c.graph.edges_end_in_code a l.0 l.1)

  no_lack : (a : ℕ) → a < n → lacks_edge memory edges a ≡ false
  no_lack a h = refuted _ λ e.
      let r = jump_instr (instr_at memory a) (and_left _ _ e) in
      let l = c.graph.jumps_have_successors a r.0 h r.1 in
      true_false (listed_has edges a l.0 l.1) (not-true _ (and_right (is_jump (instr_at memory a)) _ e))

  one_if_meeting : (i j : ℕ) → OneIfMeeting edges n i j
  one_if_meeting i j a ha ia ja b hb = same_bool _ _ (within i j ia ja) (within j i ja ia)
    where
      within : (x y : ℕ) → is_edge edges x a ≡ true → is_edge edges y a ≡ true → is_edge edges x b ≡ true → is_edge edges y b ≡ true
      within x y xa ya xb =
          listed_edge edges y b
          (c.graph.sets_equal_or_apart x y a (edge_listed edges x a xa) (edge_listed edges y a ya) b (edge_listed edges x b xb))

  no_label_wrong : (a : ℕ) → a < n → label_wrong memory n edges a ≡ false
  no_label_wrong a h = refuted _ λ e. go (either _ _ e)
    where
      missing : (k : ℕ) × (k < edge_count edges) × (unlabelled memory n edges a k ≡ true) → ⊥
      missing (k, l, e) =
          let z = eqb-true (target_of edges k) a (and_left _ _ e) in
          let here : Listed edges (jump_of edges k) a = rw z at (place_listed edges k l) in
          let id = id_found edges n (jump_of edges k) a here h in
          let i = c.instrumented.destinations_labelled (jump_of edges k) a (id_of edges n (jump_of edges k)) here id in
          let id-of = id_of edges n (jump_of edges k) in
          let wrong = and_right (eqb (target_of edges k) a) (not (is_label_of (label_number (instr_at memory a)) id-of)) e in
          true_false (eq-eqb id-of id-of refl) (not-true _ (rw i at wrong))

      stray : (is_label (label_number (instr_at memory a)) && not (is_destination edges a)) ≡ true → ⊥
      stray e =
          let w = label_instr (instr_at memory a) (and_left _ _ e) in
          let l = c.instrumented.labels_at_destinations a w.0 h w.1 in
          true_false (listed_destination edges l.0 a l.1) (not-true _ (and_right (is_label (label_number (instr_at memory a))) _ e))

      go : (any_unlabelled memory n edges a ≡ true) ⊎ ((is_label (label_number (instr_at memory a)) && not (is_destination edges a)) ≡ true)
          → ⊥
      go (inl e) = missing (any_witness (unlabelled memory n edges a) (edge_count edges) e)
      go (inr e) = stray e

  no_store : (u : Technique) → t ≡ u → (a : ℕ) → a < n → store_unguarded u memory n a ≡ false
  no_store Technique.Plain q a h = refl
  no_store Technique.MemoryGuards q a h = refuted _ λ e.
      let r = store_instr (instr_at memory a) (and_left _ _ e) in
      let guarded : StoresGuarded t memory n edges Technique.MemoryGuards = rw q at c.instrumented.stores_guarded in
      let g = guarded a r.0 r.1.0 r.1.1.0 h r.1.1.1 in
      true_false
      (both_true (lt-ltb n (length memory) g.0) (with_ends memory (store_guard n (length memory)) a g.1))
      (not-true _ (and_right (is_store (instr_at memory a)) _ e))

  no_jump : (a : ℕ) → a < n → jump_unguarded t memory n edges a ≡ false
  no_jump a h = refuted _ λ e.
      let r = jump_instr (instr_at memory a) (and_left _ _ e) in
      true_false
      (with_ends memory (jump_guard t n (id_of edges n a)) a
      (c.instrumented.jumps_guarded a r.0 (id_of edges n a) h r.1 (jump_id a r.0 h r.1)))
      (not-true _ (and_right (is_jump (instr_at memory a)) _ e))

  right : (a w : ℕ) → a < n → branch_target (instr_at memory a) ≡ Some w → TargetRight t memory n edges w
  right a w h e =
      let out = c.instrumented.targets_outside_guards a w h e in
      record {
        in_code = c.instrumented.targets_in_code a w h e;
        outside_jumps = λ j l. refuted _ λ p.
            let i = inside_inner memory (jump_guard t n (id_of edges n j)) w j p in
            out.0 j (id_of edges n j) l (jump_id j 0 l (jump_last t memory n _ j i.ends)) i;
        outside_stores = λ u j l. refuted _ λ p.
            let stores = subst (λ (x : Technique). OutsideStoreGuards t memory n edges x w) u out.1 in
            stores j l (inside_inner memory (store_guard n (length memory)) w j p);
      }

  no_branch : (a : ℕ) → a < n → branch_wrong t memory n edges a ≡ false
  no_branch a h = go (branch_target (instr_at memory a)) refl
    where
      go : (o : Option ℕ) → branch_target (instr_at memory a) ≡ o → target_wrong_if_any t memory n edges o ≡ false
      go None e = refl
      go (Some w) e = right_target memory n edges w t (right a w h e)

  conditions_faultless : Faultless t memory n edges
  conditions_faultless =
      record {
        claim =
            record {
              shape = c.shape;
              edges_start = λ k h.
                  let s = c.graph.edges_start_at_jumps (jump_of edges k) (target_of edges k) (place_listed edges k h) in
                  rw (lt-leb n (jump_of edges k) s.0, s.1.1);
              edges_end = λ k h.
                  lt-leb n (target_of edges k) (c.graph.edges_end_in_code (jump_of edges k) (target_of edges k) (place_listed edges k h));
              edges_rise = rising_clean edges c.edges_rise;
              jumps_leave = no_lack;
              sets_apart = λ i h. one_apart edges n i (λ j l. one_if_meeting i j);
            };
        last_illegal = ap is_illegal c.instrumented.last_illegal;
        labels = no_label_wrong;
        stores = no_store t refl;
        jumps = no_jump;
        branches = no_branch;
      }

pub accepted_exactly : AcceptedExactly
accepted_exactly =
    record {
      sound = λ t memory n edges e. faultless_conditions t memory n edges (accepted_faultless t memory n edges e);
      complete = λ t memory n edges c. faultless_accepted t memory n edges (conditions_faultless t memory n edges c);
    }
