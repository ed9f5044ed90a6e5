-- What the passes rely on follows from the checker's acceptance: edges rise (18); jumps have edges and edges start at jumps (7, 9); the movi of a
-- jump's guard has its ID (14); an address is a target of j exactly where its label is j's ID, since labels stand at destinations,
-- with their set's ID (12), and two sets with an address in common are equal (10).
use Prim.Native.Nat.{ℕ, ◌+◌, ◌-◌, ◌%◌, ◌^◌, ◌≤◌, ◌<◌}
use mathlib.Core.Path.{◌≡◌, refl, sym, ap, subst, ◌∙◌}
use mathlib.Core.Bool.{Bool, true, false}
use mathlib.Core.List.{List}
use native.Mathlib.Omega.{arith}
use lib.ListN.{length, get_or}
use lib.Dec.{eqb, leb}
use borrow.Author.Tests.{eq-eqb, eqb-true, not-false}
use Rattle.lists.proofs.Bools.{and_left, and_right, and_rest, or_right, same_bool}
use Rattle.std.specs.Prelude.{Ok}
use Rattle.answers.specs.Shape.{memory_shaped, edges_shaped}
use Rattle.isa.specs.declared.Kind.{Kind}
use Rattle.isa.specs.declared.Instr.{Instr}
use Rattle.isa.specs.declared.Technique.{Technique}
use Rattle.isa.specs.Words.{fields_of}
use Rattle.isa.specs.Instructions.{instr_at, is_jump, is_kind, label_number}
use Rattle.isa.proofs.ByKind.{of_kind, kind_decode, no_label}
use Rattle.graph.specs.Claim.{jump_of, is_edge, has_edge, id_of}
use Rattle.graph.proofs.Edges.{within_of}
use Rattle.guards.specs.Sequences.{jump_guard, stands_at}
use Rattle.guards.proofs.Fits.{fits_filled, slot_fits}
use Rattle.checker.specs.Verdicts.{verdict_of}
use Rattle.checker.specs.Conditions.{Listed, IsId, Conditions}
use Rattle.checker.proofs.Rules.{sized, few_edges}
use Rattle.checker.proofs.Listed.{edge_listed, listed_edge, has_listed, id_found}
use Rattle.checker.proofs.Readings.{jump_instr}
use Rattle.checker.proofs.Faultless.{Faultless, accepted_faultless}
use Rattle.checker.proofs.Equivalence.{accepted_exactly}
use Rattle.report.specs.Inside.{number_or, label_at, Held}

module _ (t : Technique) (memory : List ℕ) (n : ℕ) (edges : List ℕ) (e : verdict_of t memory n edges ≡ Ok tt) where
  clean : Faultless t memory n edges
  clean = accepted_faultless t memory n edges e

  met : Conditions t memory n edges
  met = accepted_exactly.sound t memory n edges e

  jump_edge : (j : ℕ) → j < n → is_jump (instr_at memory j) ≡ has_edge edges j
  jump_edge j l = same_bool _ _ there back
    where
      there : is_jump (instr_at memory j) ≡ true → has_edge edges j ≡ true
      there h = not-false _ (and_rest _ _ h (clean.claim.jumps_leave j l))

      back : has_edge edges j ≡ true → is_jump (instr_at memory j) ≡ true
      back h =
          let v = has_listed edges j h in
          let k = v.1.place in
          subst (λ (x : ℕ). is_jump (instr_at memory x) ≡ true) v.1.jump
          (not-false _ (or_right (leb n (jump_of edges k)) _ (clean.claim.edges_start k v.1.within)))

  -- a jump with an edge has its ID, which is a target in code
  has_id : (j a : ℕ) → Listed edges j a → IsId edges j (id_of edges n j)
  has_id j a m = id_found edges n j a m (met.graph.edges_end_in_code j a m)

  id_low : (j a : ℕ) → Listed edges j a → id_of edges n j < n
  id_low j a m = met.graph.edges_end_in_code j _ (has_id j a m).member

  -- the guard of a jump with its last word, the jmp, at j: three words before it is the movi of its ID
  guard_movi : (j : ℕ) → j < n → is_jump (instr_at memory j) ≡ true → (3 ≤ j) × (instr_at memory (j - 3) ≡ Instr.Movi 2 (id_of edges n j))
  guard_movi j l h =
      let i = jump_instr (instr_at memory j) h in
      let v = has_listed edges j (sym (jump_edge j l) ∙ h) in
      let ends = met.instrumented.jumps_guarded j i.0 (id_of edges n j) l i.1 (has_id j v.0 v.1) in
      movi_there t ends.first j ends.last ends.stands
    where
      movi_there : (t : Technique) (b a : ℕ) → b + length (jump_guard t n (id_of edges n j)) ≡ a + 1
          → stands_at memory b (jump_guard t n (id_of edges n j)) ≡ true → (3 ≤ a) × (instr_at memory (a - 3) ≡ Instr.Movi 2 (id_of edges n j))
      movi_there Technique.Plain b a e s =
          let q : b + 2 ≡ a - 3 = omega arith in
          (omega arith, subst (λ (x : ℕ). instr_at memory x ≡ Instr.Movi 2 (id_of edges n j)) q (fits_filled _ _ (slot_fits memory b (jump_guard Technique.Plain n (id_of edges n j)) s 2 (omega arith))))
      movi_there Technique.MemoryGuards b a e s =
          let q : b + 6 ≡ a - 3 = omega arith in
          (omega arith, subst (λ (x : ℕ). instr_at memory x ≡ Instr.Movi 2 (id_of edges n j)) q (fits_filled _ _ (slot_fits memory b (jump_guard Technique.MemoryGuards n (id_of edges n j)) s 6 (omega arith))))

  guard_id : (j : ℕ) → j < n → is_jump (instr_at memory j) ≡ true → get_or memory (j - 3) 0 % 2 ^ 32 ≡ id_of edges n j
  guard_id j l h =
      let e = (guard_movi j l h).1 in
      sym (ap (λ (i : Instr). (fields_of i).w) (kind_decode Kind.Movi refl (get_or memory (j - 3) 0) (ap (is_kind Kind.Movi) e))) ∙ ap (λ (i : Instr). (fields_of i).w) e

  -- a target's label has its set's ID, and a label with that number stands at a target
  target_label : (j a : ℕ) → Listed edges j a → label_at memory n a ≡ id_of edges n j
  target_label j a m =
      ap (λ (i : Instr). number_or n (label_number i)) (met.instrumented.destinations_labelled j a (id_of edges n j) m (has_id j a m))

  no_number : (a : ℕ) → is_kind Kind.Label (instr_at memory a) ≡ false → label_at memory n a ≡ n
  no_number a h = ap (number_or n) (no_label (instr_at memory a) h)

  destination : (a : ℕ) → a < n → is_kind Kind.Label (instr_at memory a) ≡ true → (j : ℕ) × Listed edges j a
  destination a l k = met.instrumented.labels_at_destinations a (fields_of (instr_at memory a)).w l (of_kind Kind.Label (instr_at memory a) k)

  label_target : (j b a : ℕ) → Listed edges j b → a < n → label_at memory n a ≡ id_of edges n j → Listed edges j a
  label_target j b a m l h = go (is_kind Kind.Label (instr_at memory a)) refl
    where
      its : Listed edges j (id_of edges n j)
      its = (has_id j b m).member

      go : (x : Bool) → is_kind Kind.Label (instr_at memory a) ≡ x → Listed edges j a
      go true k =
          let v = destination a l k in
          let i = v.0 in
          let same : id_of edges n i ≡ id_of edges n j = sym (target_label i a v.1) ∙ h in
          let shared : Listed edges i (id_of edges n j) = subst (λ (x : ℕ). Listed edges i x) same (has_id i a v.1).member in
          met.graph.sets_equal_or_apart i j (id_of edges n j) shared its a v.1
      go false k = absurd (omega (arith, no_number a k, h, id_low j b m))

  label_edge : (j a : ℕ) → has_edge edges j ≡ true → a < n → is_edge edges j a ≡ eqb (label_at memory n a) (id_of edges n j)
  label_edge j a h l =
      let v = has_listed edges j h in
      same_bool _ _
      (λ x. eq-eqb _ _ (target_label j a (edge_listed edges j a x)))
      (λ x. listed_edge edges j a (label_target j v.0 a v.1 l (eqb-true _ _ x)))

  label_used : (a : ℕ) → a < n → label_at memory n a < n → (j : ℕ) × (is_edge edges j a ≡ true)
  label_used a l low = go (is_kind Kind.Label (instr_at memory a)) refl
    where
      go : (x : Bool) → is_kind Kind.Label (instr_at memory a) ≡ x → (j : ℕ) × (is_edge edges j a ≡ true)
      go true k = let v = destination a l k in (v.0, listed_edge edges v.0 a v.1)
      go false k = absurd (omega (arith, no_number a k))

  pub held : Held memory n edges
  held =
      let m = and_left (memory_shaped (length memory) n) (edges_shaped (length edges)) clean.claim.shape in
      let g = and_right (memory_shaped (length memory) n) (edges_shaped (length edges)) clean.claim.shape in
      let s = sized memory n m in
      record {
        sized = s;
        within = within_of memory edges n s.code_limit (few_edges (length edges) g) clean.claim.edges_start clean.claim.edges_end;
        rises = met.edges_rise;
        jumps = jump_edge;
        guarded = λ j l h. (guard_movi j l h).0;
        ids = guard_id;
        labels = label_edge;
        used = label_used;
      }
