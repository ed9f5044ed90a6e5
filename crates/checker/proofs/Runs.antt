-- Edges that rise: those of one jump stand side by side, the one to its lowest target first, and they are as many as its targets.
use Prim.Native.Nat.{ℕ, zero, suc, ◌+◌, ◌-◌, ◌<◌, ◌≤◌}
use mathlib.Core.Path.{◌≡◌, sym, ap, subst, ◌∙◌}
use mathlib.Core.Logic.{◌≢◌, ⊎_elim, inl, inr}
use mathlib.Core.Bool.{Bool, true, false, not, cond, ◌&&◌}
use mathlib.Core.List.{List}
use native.Mathlib.Omega.{arith}
use native.Mathlib.Nat.{eq-or-lt_of_le}
use native.Mathlib.Decide.{dec_lt, ℕ_discrete}
use lib.Dec.{eqb, leb}
use lib.ListN.{length, get_or, set}
use borrow.Author.Tests.{eq-eqb, ne_eqb, eqb-true, not-false}
use Rattle.lists.specs.Search.{bit}
use Rattle.lists.specs.Tables.{Table}
use Rattle.lists.proofs.Bools.{and_left, or_right, true_false, both_true, refuted, same_bool}
use Rattle.lists.proofs.Search.{lowest_at, any_hit, any_clean, any_witness}
use Rattle.lists.proofs.Counts.{count_ext, count_zero}
use Rattle.lists.proofs.Tables.{table_as, table_set}
use Rattle.graph.specs.Claim.{edge_count, jump_of, target_of, is_edge, has_edge, id_of}
use Rattle.isa.specs.Instructions.{instr_at, is_jump}
use Rattle.graph.specs.Rules.{starts_at_no_jump, lacks_edge}
use Rattle.graph.specs.Passes.{Within, edge_in}
use Rattle.graph.proofs.Edges.{edge_more, edge_at, edge_of}
use Rattle.rising.specs.Rising.{Above, Rising}
use Rattle.rising.proofs.Sizes.{size_in, size_more}
use Rattle.checker.specs.Passes.{Run, EdgesOf, OwnedBy, is_first}
use Rattle.std.specs.Prelude.{Option, Some, None}
use Rattle.std.specs.Bool.{MatchBool}
use Rattle.std.specs.List.{range_with_len, AllWithin, HoldsAt}
use Rattle.std.proofs.lemmas.List.FromFn.{length-range_with_len, get_or-range_with_len}
use Rattle.std.specs.Option.{MatchOption, unwrap_or}

-- the first k edges are those that start below a
pub record Cut (edges : List ℕ) (a k : ℕ) : Type 0 where
  pub place : k ≤ edge_count edges
  pub below : (i : ℕ) → i < k → jump_of edges i < a
  pub above : (i : ℕ) → k ≤ i → i < edge_count edges → a ≤ jump_of edges i

pub cut_none : (edges : List ℕ) → Cut edges 0 0
cut_none edges = record { place = omega arith; below = λ i l. absurd (omega arith); above = λ i l h. omega arith }

-- a run by the jump of edge k; that edge is in it
pub run_at : (edges : List ℕ) {j : ℕ} (k end : ℕ) → j ≡ jump_of edges k → Run edges j k end → Run edges (jump_of edges k) k end
run_at edges k end e run = subst (λ (x : ℕ). Run edges x k end) e run

-- a search from k on for an edge that starts elsewhere
pub run_told : (edges : List ℕ) (j k m r : ℕ) (o : Option ℕ) → k ≤ m → m ≡ edge_count edges → r ≡ unwrap_or o m
    → MatchOption o ((i : ℕ) → k ≤ i → i < m → jump_of edges i ≡ j)
    (λ i. (k ≤ i) × (i < m) × (jump_of edges i ≢ j) × ((x : ℕ) → k ≤ x → x < i → jump_of edges x ≡ j))
    → Run edges j k r
run_told edges j k m r None l e z h =
    record {
      from = omega arith;
      upto = omega arith;
      mine = λ i p q. h i p (omega arith);
      next = λ p. absurd (omega arith);
    }
run_told edges j k m r (Some i) l e z h =
    record {
      from = omega (arith, h.0);
      upto = omega (arith, h.1);
      mine = λ x p q. h.3 x p (omega arith);
      next = λ p q. h.2 (ap (jump_of edges) (sym z) ∙ q);
    }

pub run_some : (edges : List ℕ) (k end : ℕ) → Run edges (jump_of edges k) k end → k < edge_count edges → k < end
run_some edges k end run h =
    ⊎_elim
    (λ e. absurd (run.next (omega arith) (ap (jump_of edges) (sym e))))
    (λ q. q)
    (eq-or-lt_of_le run.from)

-- where all edges of the jump of edge k are from k to `end`
module _ (edges : List ℕ) (n k end : ℕ) (upto : end ≤ edge_count edges)
    (all : (i : ℕ) → i < edge_count edges → jump_of edges i ≡ jump_of edges k → (k ≤ i) × (i < end)) where
  pub none_before : k ≤ end → (t : ℕ) → edge_in edges k (jump_of edges k) t ≡ false
  unfolding edge_in
  none_before l t =
      any_clean (λ i. eqb (jump_of edges i) (jump_of edges k) && eqb (target_of edges i) t) k
      (λ i q. refuted _ λ e. omega (arith, (all i (omega arith) (eqb-true (jump_of edges i) (jump_of edges k) (and_left _ _ e))).0))

  pub none_after : (t : ℕ) → edge_in edges end (jump_of edges k) t ≡ is_edge edges (jump_of edges k) t
  unfolding edge_in is_edge
  none_after t = same_bool _ _ out back
    where
      out : edge_in edges end (jump_of edges k) t ≡ true → is_edge edges (jump_of edges k) t ≡ true
      out e =
          let v = any_witness (λ i. eqb (jump_of edges i) (jump_of edges k) && eqb (target_of edges i) t) end e in
          any_hit _ (edge_count edges) v.0 (omega (arith, v.1)) v.2

      back : is_edge edges (jump_of edges k) t ≡ true → edge_in edges end (jump_of edges k) t ≡ true
      back e =
          let v = edge_of edges n (jump_of edges k) t e in
          any_hit _ end v.0 (all v.0 v.1 v.2).1 (both_true (eq-eqb _ _ v.2) (eq-eqb _ _ v.3))

module _ (edges : List ℕ) (n k end : ℕ) (x : EdgesOf edges n k end) where
  pub own_edge : (i : ℕ) → k ≤ i → i < end → is_edge edges (jump_of edges k) (target_of edges i) ≡ true
  own_edge i l q =
      subst (λ (j : ℕ). is_edge edges j (target_of edges i) ≡ true) (x.mine i l q) (edge_at edges n i (omega (arith, x.upto)))

  pub all_targets : (P : ℕ → Type 0) → ((i : ℕ) → k ≤ i → i < end → P (target_of edges i))
      → (t : ℕ) → is_edge edges (jump_of edges k) t ≡ true → P t
  all_targets P h t e =
      let v = edge_of edges n (jump_of edges k) t e in
      let p = x.all v.0 v.1 v.2 in
      subst P v.3 (h v.0 p.0 p.1)

  -- whether the targets of all its edges are owned by o, asked of each edge
  pub owned_told : (own : List ℕ) (o : ℕ) (r : Bool)
      → MatchBool r (AllWithin (λ i. get_or own (target_of edges i) 0 ≡ o) (range_with_len k (end - k)) 0 (length (range_with_len k (end - k))))
      ((d : ℕ) × (d < length (range_with_len k (end - k))) × HoldsAt (λ i. get_or own (target_of edges i) 0 ≢ o) (range_with_len k (end - k)) d)
      → OwnedBy r edges (jump_of edges k) o own
  owned_told own o true h =
      all_targets (λ t. get_or own t 0 ≡ o)
      (λ i l q.
      let d : i - k < end - k = omega arith in
      let at : get_or (range_with_len k (end - k)) (i - k) 0 ≡ i = get_or-range_with_len k (end - k) (i - k) 0 d ∙ omega (arith, l) in
      rw at at (h (i - k) 0 (omega arith) (omega (arith, d, length-range_with_len k (end - k)))))
  owned_told own o false h =
      let d : h.0 < end - k = omega (arith, h.1, length-range_with_len k (end - k)) in
      let at : get_or (range_with_len k (end - k)) h.0 0 ≡ k + h.0 = get_or-range_with_len k (end - k) h.0 0 d in
      (target_of edges (k + h.0), own_edge (k + h.0) (omega arith) (omega (arith, d)), rw at at (h.2 0))

  -- the owner o put at the targets of the first m edges
  pub owner_none : {own : List ℕ} (o : ℕ) → length own ≡ 2048
      → Table own n (λ t. cond (edge_in edges k (jump_of edges k) t) o (get_or own t 0))
  owner_none {own} o e =
      let l = x.some_edge in
      record { size = e; each = λ t q. sym (rw (none_before edges n k end x.upto x.all (omega arith) t)) }

  pub owner_more : {own : List ℕ} (old : ℕ → ℕ) (o m t : ℕ) → n ≤ 2048 → k ≤ m → m < end → t ≡ target_of edges m → t < n
      → Table own n (λ t. cond (edge_in edges m (jump_of edges k) t) o (old t))
      → Table (set own t o) n (λ t. cond (edge_in edges (m + 1) (jump_of edges k) t) o (old t))
  owner_more {own} old o m t s l q et b h =
      let here = eq-eqb (jump_of edges m) (jump_of edges k) (x.mine m l q) in
      table_set (λ u. cond (edge_in edges (m + 1) (jump_of edges k) u) o (old u)) t o h (omega arith)
      (sym (rw (edge_more edges m (jump_of edges k) t, here, eq-eqb (target_of edges m) t (sym et))))
      (λ u p ne. sym (rw (edge_more edges m (jump_of edges k) u, here, ne_eqb (target_of edges m) u (λ z. ne (sym z ∙ sym et)))))

  pub owner_all : {own : List ℕ} (old : ℕ → ℕ) (o m : ℕ) → m ≡ end
      → Table own n (λ t. cond (edge_in edges m (jump_of edges k) t) o (old t))
      → Table own n (λ t. cond (is_edge edges (jump_of edges k) t) o (old t))
  owner_all old o m e h =
      table_as _ h
      (λ t l. ap (λ (b : Bool). cond b o (old t)) (ap (λ (z : ℕ). edge_in edges z (jump_of edges k) t) e ∙ none_after edges n k end x.upto x.all t))

module _ (edges : List ℕ) (r : Rising edges) where
  pub jumps_rise : (i k : ℕ) → i ≤ k → k < edge_count edges → jump_of edges i ≤ jump_of edges k
  jumps_rise i k l h = ⊎_elim (λ e. omega (arith, ap (jump_of edges) e)) (λ q. go (r i k q h)) (eq-or-lt_of_le l)
    where
      go : Above edges i k → jump_of edges i ≤ jump_of edges k
      go (inl p) = omega arith
      go (inr p) = omega (arith, p.0)

  -- an edge of a lower jump stands before
  pub lower_before : (i k : ℕ) → i < edge_count edges → jump_of edges i < jump_of edges k → i < k
  lower_before i k h l = let p : k ≤ i → ⊥ = λ q. omega (arith, jumps_rise k i q h) in omega (arith, p)

  -- a cut at the jump of the edge itself
  pub cut_at : (a k : ℕ) → Cut edges a k → k < edge_count edges → Cut edges (jump_of edges k) k
  cut_at a k c h =
      record {
        place = c.place;
        below = λ i l. omega (arith, c.below i l, c.above k (omega arith) h);
        above = λ i l q. jumps_rise k i l q;
      }

  -- the edges before the first one of a jump
  pub first_cut : (k : ℕ) → k < edge_count edges → is_first edges k ≡ true → Cut edges (jump_of edges k) k
  first_cut k l e =
      record {
        place = omega arith;
        below = λ i q.
            let to = jumps_rise i (k - 1) (omega arith) (omega arith) in
            let on = jumps_rise (k - 1) k (omega arith) l in
            omega (arith, to, on, other i q);
        above = λ i q h. jumps_rise k i q h;
      }
    where
      other : (i : ℕ) → i < k → jump_of edges (k - 1) ≢ jump_of edges k
      other i q z = true_false e (rw (ne_eqb k 0 (λ x. omega (arith, x)), eq-eqb (jump_of edges (k - 1)) (jump_of edges k) z))

  -- past the edges of a
  pub cut_run : (a k end : ℕ) → Cut edges a k → Run edges a k end → Cut edges (a + 1) end
  cut_run a k end c run = record { place = run.upto; below = λ i l. low i l (dec_lt i k); above = high }
    where
      low : (i : ℕ) → i < end → Dec (i < k) → jump_of edges i < a + 1
      low i l (yes q) = omega (arith, c.below i q)
      low i l (no q) = omega (arith, run.mine i (omega arith) l)

      high : (i : ℕ) → end ≤ i → i < edge_count edges → a + 1 ≤ jump_of edges i
      high i l h =
          let at_end_lem : end < edge_count edges = omega arith in
          let other = run.next at_end_lem in
          omega (arith, other, c.above end run.from at_end_lem, jumps_rise end i l h)

  -- past a word that is no jmp, where no edge starts
  pub cut_past : (memory : List ℕ) (n a k : ℕ) → ((i : ℕ) → i < edge_count edges → starts_at_no_jump memory n edges i ≡ false)
      → is_jump (instr_at memory a) ≡ false → Cut edges a k → Cut edges (a + 1) k
  cut_past memory n a k from e c =
      record {
        place = c.place;
        below = λ i l. omega (arith, c.below i l);
        above = λ i l h.
            let other : jump_of edges i ≢ a = λ z.
            true_false (not-false _ (or_right (leb n (jump_of edges i)) _ (from i h))) (ap (λ (x : ℕ). is_jump (instr_at memory x)) z ∙ e) in
            omega (arith, c.above i l h, other);
      }

  -- whether a has an edge
  pub run_none : (a k end : ℕ) → Cut edges a k → Run edges a k end → eqb end k ≡ not (has_edge edges a)
  unfolding has_edge
  run_none a k end c run = go (ℕ_discrete end k)
    where
      past : Cut edges (a + 1) end
      past = cut_run a k end c run

      go : Dec (end ≡ k) → eqb end k ≡ not (has_edge edges a)
      go (yes e) =
          eq-eqb end k e
          ∙ sym (ap not (any_clean (λ i. eqb (jump_of edges i) a) (edge_count edges) (λ i l. ne_eqb (jump_of edges i) a (nowhere i l (dec_lt i k)))))
        where
          nowhere : (i : ℕ) → i < edge_count edges → Dec (i < k) → jump_of edges i ≢ a
          nowhere i l (yes q) = λ z. omega (arith, z, c.below i q)
          nowhere i l (no q) = λ z. omega (arith, z, past.above i (omega arith) l)
      go (no ne) =
          let some : k < end = omega (arith, run.from, ne) in
          ne_eqb end k ne
          ∙ sym (ap not (any_hit (λ i. eqb (jump_of edges i) a) (edge_count edges) k (omega (arith, run.upto)) (eq-eqb (jump_of edges k) a (run.mine k (omega arith) some))))

  -- what the test of rule 9 says at a jmp
  pub lacks : (memory : List ℕ) (a k end : ℕ) → Cut edges a k → Run edges a k end → is_jump (instr_at memory a) ≡ true
      → lacks_edge memory edges a ≡ eqb end k
  lacks memory a k end cut run e = rw (e, run_none a k end cut run)

  -- a jump below b with an edge is below a, where no edge from k on starts below b
  pub cut_between : (n a b k : ℕ) → Cut edges a k → ((i : ℕ) → k ≤ i → i < edge_count edges → b ≤ jump_of edges i)
      → (j t : ℕ) → j < b → is_edge edges j t ≡ true → j < a
  cut_between n a b k c above j t l e = let v = edge_of edges n j t e in go v.0 v.1 v.2 (dec_lt v.0 k)
    where
      go : (i : ℕ) → i < edge_count edges → jump_of edges i ≡ j → Dec (i < k) → j < a
      go i q z (yes p) = omega (arith, c.below i p, z)
      go i q z (no p) = absurd (omega (arith, above i (omega arith) q, z))

  -- the first edge of a jump goes to its lowest target
  pub first_target : (n : ℕ) → Within edges n → (k : ℕ) → Cut edges (jump_of edges k) k → k < edge_count edges
      → target_of edges k ≡ id_of edges n (jump_of edges k)
  unfolding id_of
  first_target n w k c h =
      lowest_at (is_edge edges (jump_of edges k)) n (target_of edges k) (w.targets k h)
      (λ t l. refuted _ λ e.
      let v = edge_of edges n (jump_of edges k) t e in
      let from : k ≤ v.0 = let p : v.0 < k → ⊥ = λ q. omega (arith, c.below v.0 q, v.2) in omega (arith, p) in
      ⊎_elim (λ z. omega (arith, ap (target_of edges) z, v.3, l)) (λ q. go v.0 v.2 (r k v.0 q v.1) (omega (arith, v.3, l))) (eq-or-lt_of_le from))
      (edge_at edges n k h)
    where
      go : (i : ℕ) → jump_of edges i ≡ jump_of edges k → Above edges k i → target_of edges i < target_of edges k → ⊥
      go i e (inl p) l = omega (arith, e)
      go i e (inr p) l = omega (arith, p.1)

  module _ (n : ℕ) (w : Within edges n) (k end : ℕ) (c : Cut edges (jump_of edges k) k) (run : Run edges (jump_of edges k) k end) (h : k < edge_count edges) where
    abbrev j : ℕ
    j = jump_of edges k

    all : (i : ℕ) → i < edge_count edges → jump_of edges i ≡ j → (k ≤ i) × (i < end)
    all i l e =
        let no_lower : i < k → ⊥ = λ q. omega (arith, c.below i q, e) in
        let no_higher : end ≤ i → ⊥ = λ q. omega (arith, (cut_run j k end c run).above i q l, e) in
        (omega (arith, no_lower), omega (arith, no_higher))

    -- as many targets as edges
    grown : (d : ℕ) → k + d ≤ end → size_in edges n w r (k + d) j ≡ d
    grown zero l =
        ap (λ (x : ℕ). size_in edges n w r x j) (omega arith)
        ∙ sym (count_zero (edge_in edges k j) n (λ t q. none_before edges n k end run.upto all run.from t))
    grown (suc d) l =
        let next : k + suc d ≡ k + d + 1 = omega arith in
        let here : bit (eqb (jump_of edges (k + d)) j) ≡ 1 = rw (eq-eqb (jump_of edges (k + d)) j (run.mine (k + d) (omega arith) (omega arith))) in
        let more = size_more edges n w r (k + d) j (omega (arith, run.upto)) in
        ap (λ (x : ℕ). size_in edges n w r x j) next ∙ omega (arith, here, more, grown d (omega arith))

    pub edges_of : EdgesOf edges n k end
    edges_of =
        record {
          some_edge = run_some edges k end run h;
          upto = run.upto;
          mine = run.mine;
          all = all;
          lowest_first = first_target n w k c h;
          many =
              let d : k + (end - k) ≡ end = omega (arith, run.from) in
              sym (grown (end - k) (omega arith))
              ∙ ap (λ (x : ℕ). size_in edges n w r x j) d
              ∙ count_ext (edge_in edges end j) (is_edge edges j) n (λ t q. none_after edges n k end run.upto all t);
        }
