-- Target sets by their IDs: the labels with an ID are the targets of each jump that has it, so the largest set is the most frequent
-- label, and there are as many sets as different IDs.
use Rattle.std.specs.Prelude.{Option, Some, None, ◌==◌, fold, count_by}
use Prim.Native.Nat.{ℕ, max, ◌+◌, ◌-◌, ◌%◌, ◌^◌, ◌<◌, ◌≤◌}
use mathlib.Core.Path.{◌≡◌, refl, sym, ap, subst, ◌∙◌}
use mathlib.Core.Bool.{Bool, true, false, not, cond, ◌&&◌, beq}
use mathlib.Core.List.{List}
use native.Mathlib.Omega.{arith}
use native.Mathlib.Decide.{ℕ_discrete}
use native.Mathlib.Nat.{le_antisymm}
use borrow.Author.Tests.{eq-eqb, ne_eqb, eqb-true}
use lib.Dec.{eqb}
use lib.ListN.{get_or}
use Rattle.lists.specs.Search.{any, count}
use Rattle.lists.proofs.Bools.{clash, same_bool, true_false, refuted}
use Rattle.lists.proofs.Search.{lowest_ext, any_ext, any_clean, any_none, any_witness}
use Rattle.lists.proofs.Counts.{count_ext, count_zero, count_by_count}
use Rattle.isa.specs.declared.Kind.{Kind}
use Rattle.isa.specs.Instructions.{instr_at, is_jump}
use Rattle.graph.specs.Claim.{edge_count, is_edge, has_edge, id_of}
use Rattle.graph.specs.Rules.{sets_differ}
use Rattle.graph.proofs.Edges.{has_edge_lem, edge_below, id_below}
use Rattle.report.specs.declared.Freedom.{Freedom}
use Rattle.report.specs.Figures.{words_of_kind, freedom_by, set_size, is_new_set, sets_of, highest, largest_of, figures_of}
use Rattle.report.specs.Inside.{label_at, set_at, times_in, labels_of, jumps_of, figures_read, Held, Counted, number_or}
use Rattle.report.proofs.Sums.{highest_ext, highest_above, highest_least, any_count, is_new, new_count, fold_highest}
use Rattle.report.proofs.AsListed.{distinct_listed}

-- ---- all figures, from what the passes answer
pub figures_read_lem : (memory : List ℕ) (n listed : ℕ) {kinds labels jumps : List ℕ} {sets largest : ℕ} {freedom : Option Freedom}
    → Counted memory n n kinds labels jumps → sets ≡ count_by (λ x. not (x == 0)) jumps → largest ≡ fold max 0 labels
    → freedom ≡ freedom_by (get_or kinds 6 0) n listed
    → record { kinds = kinds; sets = sets; largest = largest; freedom = freedom } ≡ figures_read memory n listed
figures_read_lem memory n listed {kinds} {labels} {jumps} {sets} {largest} {freedom} c s l f =
    let most = l ∙ fold_highest labels ∙ ap (highest (λ k. get_or labels k 0)) c.labels_counted.size ∙ highest_ext _ _ n c.labels_counted.each in
    let several = s ∙ count_by_count (λ x. not (x == 0)) jumps ∙ ap (count (λ k. not (get_or jumps k 0 == 0))) c.jumps_counted.size ∙ count_ext _ _ n (λ k q. ap (λ (x : ℕ). not (x == 0)) (c.jumps_counted.each k q)) in
    let same : freedom ≡ freedom_by (words_of_kind memory n Kind.Jmp) n listed = f ∙ ap (λ (xs : List ℕ). freedom_by (get_or xs 6 0) n listed) c.kinds_counted in
    rw (c.kinds_counted, several, most, same)

-- the ID of the set of j, n where j is no jump; and one more than the ID, 0 where j is none
abbrev set_id : List ℕ → ℕ → ℕ → ℕ
set_id edges n j = cond (has_edge edges j) (id_of edges n j) n

abbrev set_number : List ℕ → ℕ → ℕ → ℕ
set_number edges n j = cond (has_edge edges j) (id_of edges n j + 1) 0

-- ---- what the words say of a program that is held
module _ (memory : List ℕ) (n : ℕ) (edges : List ℕ) (h : Held memory n edges) where
  set_is : (j : ℕ) → j < n → set_at memory n j ≡ set_id edges n j
  set_is j l = go (is_jump (instr_at memory j)) refl
    where
      go : (b : Bool) → is_jump (instr_at memory j) ≡ b → number_or n (cond b (Some (get_or memory (j - 3) 0 % 2 ^ 32)) None) ≡ set_id edges n j
      go true e = h.ids j l e ∙ sym (ap (λ (b : Bool). cond b (id_of edges n j) n) (sym (h.jumps j l) ∙ e))
      go false e = sym (ap (λ (b : Bool). cond b (id_of edges n j) n) (sym (h.jumps j l) ∙ e))

  id_under : (j : ℕ) → has_edge edges j ≡ true → id_of edges n j < n
  id_under = id_below edges n h.within

  -- ---- the size of a set: a jump has as many targets as there are labels with its ID
  size_none : (j : ℕ) → has_edge edges j ≡ false → 0 ≡ set_size edges n j
  unfolding set_size
  size_none j e = count_zero (is_edge edges j) n (λ t q. refuted _ (λ x. true_false (has_edge_lem edges n j t x) e))

  size_some : (j : ℕ) → has_edge edges j ≡ true → set_size edges n j ≡ labels_of memory n (id_of edges n j)
  unfolding set_size times_in
  size_some j e = count_ext _ _ n (λ t q. h.labels j t e q)

  -- ---- the largest set: a label that occurs has the ID of a jump
  jump_of_lem : (s : ℕ) → s < n → (labels_of memory n s ≡ 0 → ⊥) → (j : ℕ) × (j < n) × (has_edge edges j ≡ true) × (id_of edges n j ≡ s)
  unfolding times_in
  jump_of_lem s l ne =
      let w = any_witness (λ t. eqb (label_at memory n t) s) n (any_count (λ t. eqb (label_at memory n t) s) n ∙ ap not (ne_eqb _ 0 ne)) in
      let e = eqb-true _ _ w.2 in
      let v = h.used w.0 w.1 (subst (λ (x : ℕ). x < n) (sym e) l) in
      let has = has_edge_lem edges n v.0 w.0 v.1 in
      let same = eqb-true _ _ (sym (h.labels v.0 w.0 has w.1) ∙ v.1) in
      (v.0, (edge_below edges n h.within v.0 w.0 v.1).0, has, sym same ∙ e)

  largest_is : highest (labels_of memory n) n ≡ largest_of n edges
  largest_is = le_antisymm (highest_least _ n _ up) (highest_least _ n _ down)
    where
      up : (s : ℕ) → s < n → labels_of memory n s ≤ highest (set_size edges n) n
      up s l = go (ℕ_discrete (labels_of memory n s) 0)
        where
          go : Dec (labels_of memory n s ≡ 0) → labels_of memory n s ≤ highest (set_size edges n) n
          go (yes p) = omega arith
          go (no p) =
              let v = jump_of_lem s l p in
              let e : set_size edges n v.0 ≡ labels_of memory n s = size_some v.0 v.2 ∙ ap (labels_of memory n) v.3 in
              omega (arith, e, highest_above (set_size edges n) n v.0 v.1)

      down : (j : ℕ) → j < n → set_size edges n j ≤ highest (labels_of memory n) n
      down j l = go (has_edge edges j) refl
        where
          go : (b : Bool) → has_edge edges j ≡ b → set_size edges n j ≤ highest (labels_of memory n) n
          go true e = omega (arith, size_some j e, highest_above (labels_of memory n) n (id_of edges n j) (id_under j e))
          go false e = omega (arith, size_none j e)

  -- ---- sets: equal sets have one ID, and sets with one ID are equal
  same_set : (i j : ℕ) → has_edge edges i ≡ true → has_edge edges j ≡ true
      → eqb (id_of edges n i + 1) (id_of edges n j + 1) ≡ not (sets_differ edges n i j)
  unfolding id_of
  same_set i j ei ej = same_bool _ _ there (λ e. eq-eqb _ _ (ap (λ (x : ℕ). x + 1) (back (sets_differ edges n i j) refl e)))
    where
      alike : (a b : Bool) → a ≡ b → not (beq a b) ≡ false
      alike true true e = refl
      alike true false e = clash (cc)
      alike false true e = clash (cc)
      alike false false e = refl

      same : (a b : Bool) → not (beq a b) ≡ false → a ≡ b
      same true true e = refl
      same true false e = clash (cc)
      same false true e = clash (cc)
      same false false e = refl

      there : eqb (id_of edges n i + 1) (id_of edges n j + 1) ≡ true → not (sets_differ edges n i j) ≡ true
      there e =
          let p = eqb-true (id_of edges n i + 1) (id_of edges n j + 1) e in
          let q : id_of edges n i ≡ id_of edges n j = omega arith in
          ap not
          (any_clean (λ a. not (beq (is_edge edges i a) (is_edge edges j a))) n
          (λ a l. alike _ _ (h.labels i a ei l ∙ ap (eqb (label_at memory n a)) q ∙ sym (h.labels j a ej l))))

      back : (b : Bool) → sets_differ edges n i j ≡ b → not (sets_differ edges n i j) ≡ true → id_of edges n i ≡ id_of edges n j
      back true p e = clash (cc)
      back false p e =
          lowest_ext (is_edge edges i) (is_edge edges j) n
          (λ a l. same _ _ (any_none (λ a. not (beq (is_edge edges i a) (is_edge edges j a))) n p a l))

  new_of : (j : ℕ) → j < n → is_new (set_number edges n) j ≡ is_new_set memory n edges j
  new_of j l =
      go (has_edge edges j) refl
      ∙ ap (λ (b : Bool). b && not (any (λ i. is_jump (instr_at memory i) && not (sets_differ edges n i j)) j)) (sym (h.jumps j l))
    where
      earlier : has_edge edges j ≡ true → (i : ℕ) → i < n
          → eqb (set_number edges n i) (id_of edges n j + 1) ≡ (is_jump (instr_at memory i) && not (sets_differ edges n i j))
      earlier e i q = by (has_edge edges i) refl ∙ ap (λ (b : Bool). b && not (sets_differ edges n i j)) (sym (h.jumps i q))
        where
          by : (b : Bool) → has_edge edges i ≡ b → eqb (cond b (id_of edges n i + 1) 0) (id_of edges n j + 1) ≡ (has_edge edges i && not (sets_differ edges n i j))
          by true f = rw f (same_set i j f e)
          by false f = rw f (ne_eqb 0 (id_of edges n j + 1) (λ z. omega arith))

      go : (b : Bool) → has_edge edges j ≡ b
          → (not (eqb (cond b (id_of edges n j + 1) 0) 0) && not (any (λ i. eqb (set_number edges n i) (cond b (id_of edges n j + 1) 0)) j))
          ≡ (has_edge edges j && not (any (λ i. is_jump (instr_at memory i) && not (sets_differ edges n i j)) j))
      go true e =
          rw (e, ne_eqb (id_of edges n j + 1) 0 (λ z. omega arith))
          (ap not (any_ext _ _ j (λ i q. earlier e i (omega arith))))
      go false e = rw e

  number_low : (j : ℕ) (b : Bool) → has_edge edges j ≡ b → cond b (id_of edges n j + 1) 0 ≤ n
  number_low j true e = let l = id_under j e in omega arith
  number_low j false e = omega arith

  occurs : (s : ℕ) → s < n → any (λ i. eqb (set_number edges n i) (s + 1)) n ≡ not (eqb (jumps_of memory n s) 0)
  unfolding times_in
  occurs s l =
      any_ext _ _ n (λ i q. by i (has_edge edges i) refl ∙ sym (ap (λ (x : ℕ). eqb x s) (set_is i q)))
      ∙ any_count (λ i. eqb (set_at memory n i) s) n
    where
      by : (i : ℕ) (b : Bool) → has_edge edges i ≡ b → eqb (cond b (id_of edges n i + 1) 0) (s + 1) ≡ eqb (cond b (id_of edges n i) n) s
      by i true e =
          same_bool _ _
          (λ t. let p = eqb-true (id_of edges n i + 1) (s + 1) t in eq-eqb (id_of edges n i) s (omega arith))
          (λ t. let p = eqb-true (id_of edges n i) s t in eq-eqb (id_of edges n i + 1) (s + 1) (omega arith))
      by i false e = ne_eqb 0 (s + 1) (λ z. omega arith) ∙ sym (ne_eqb n s (λ z. omega arith))

  sets_are : count (λ s. not (eqb (jumps_of memory n s) 0)) n ≡ sets_of memory n edges
  unfolding sets_of
  sets_are =
      sym
      (sym (count_ext _ _ n new_of)
      ∙ new_count (set_number edges n) n n (λ j l. number_low j (has_edge edges j) refl)
      ∙ count_ext _ _ n occurs)

  -- so the passes read the figures
  pub figures_are : figures_read memory n (edge_count edges) ≡ figures_of memory n edges
  unfolding figures_of
  figures_are = rw (sets_are, largest_is, distinct_listed edges n h.within h.rises)
