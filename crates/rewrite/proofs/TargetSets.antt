-- Owners, edge by edge: the ID of the set that each target of the first edges is in. Edges rise, so that the first edge of a jump goes to
-- its ID; and an ID is the lowest address of its set, so that its entry comes before those of the others.
use Prim.Native.Nat.{ℕ, ◌+◌, ◌-◌, ◌<◌, ◌≤◌}
use mathlib.Core.Path.{◌≡◌, sym, ap, subst, ◌∙◌}
use mathlib.Core.Bool.{true, false}
use mathlib.Core.Logic.{◌≢◌}
use mathlib.Core.List.{List, ◌++◌}
use native.Mathlib.Omega.{arith}
use native.Mathlib.Decide.{ℕ_discrete, dec_lt}
use lib.Dec.{eqb}
use lib.ListN.{length, get_or, set, drop, length-set, length-append, length-drop}
use lib.Seq.{get_or-set_same, get_or-set_other, drop-set-lt, drop-append_seam}
use borrow.Author.Tests.{eq-eqb, eqb-true, not-false}
use Rattle.lists.specs.Search.{lowest}
use Rattle.lists.proofs.Bools.{true_false, or_left, or_right}
use Rattle.lists.proofs.Search.{lowest_is, any_hit, any_witness}
use Rattle.rising.specs.Rising.{Rising}
use Rattle.graph.specs.Claim.{edge_count, jump_of, target_of, is_edge, is_destination, id_of}
use Rattle.graph.specs.Passes.{Within, Owned}
use Rattle.graph.proofs.Edges.{edge_at}
use Rattle.checker.specs.Passes.{is_first}
use Rattle.checker.proofs.Runs.{first_cut, first_target}
use Rattle.guarded.specs.Rewrite.{set_of}
use Rattle.rewrite.specs.Inside.{OneId, OwnersIn}

module _ (edges : List ℕ) (n : ℕ) where
  -- the sets of the destinations, by the first k edges, put over `before`; `id` is that of the last one's set
  pub record Owning (before own : List ℕ) (k id : ℕ) : Type 0 where
    pub long : length own ≡ length before
    pub past : drop n own ≡ drop n before
    pub held : (i : ℕ) → i < k → get_or own (target_of edges i) 0 ≡ id_of edges n (jump_of edges i)
    pub free : (a : ℕ) → a < n → ((i : ℕ) → i < k → target_of edges i ≢ a) → get_or own a 0 ≡ n
    pub last : 1 ≤ k → id ≡ id_of edges n (jump_of edges (k - 1))
    pub small : id ≤ n

  -- the ID of edge k's set
  pub id_first : Rising edges → Within edges n → (k : ℕ) → k < edge_count edges → is_first edges k ≡ true
      → target_of edges k ≡ id_of edges n (jump_of edges k)
  id_first r w k l e = first_target edges r n w k (first_cut edges r k l e) l

  pub id_same : {before own : List ℕ} {k id : ℕ} → Owning before own k id → is_first edges k ≡ false → id ≡ id_of edges n (jump_of edges k)
  id_same {k} h e =
      let none : k ≢ 0 = λ z. true_false (eq-eqb k 0 z) (or_left _ _ e) in
      let same : jump_of edges (k - 1) ≡ jump_of edges k = eqb-true _ _ (not-false _ (or_right (eqb k 0) _ e)) in
      h.last (omega (arith, none)) ∙ ap (id_of edges n) same

  pub owning_more : {before own : List ℕ} {k id t v : ℕ} → Within edges n → OneId edges n → k < edge_count edges → n ≤ length before
      → Owning before own k id → t ≡ target_of edges k → v ≡ id_of edges n (jump_of edges k) → v ≤ n
      → Owning before (set own t v) (k + 1) v
  owning_more {before} {own} {k} {id} {t} {v} w one l room h et ev s =
      record {
        long = length-set own t v ∙ h.long;
        past = drop-set-lt n own t v (omega (arith, w.targets k l)) ∙ h.past;
        held = λ i q. held i q (ℕ_discrete (target_of edges i) t);
        free = λ a q f.
            get_or-set_other own t a v 0 (λ e. f k (omega arith) (sym (e ∙ et))) ∙ h.free a q (λ i r. f i (omega arith));
        last = λ _. let z : k + 1 - 1 ≡ k = omega arith in ev ∙ ap (λ (x : ℕ). id_of edges n (jump_of edges x)) (sym z);
        small = s;
      }
    where
      here : (i : ℕ) → i < k + 1 → target_of edges i ≡ t → v ≡ id_of edges n (jump_of edges i)
      here i q e =
          ev
          ∙ one (jump_of edges k) (jump_of edges i) t (rw et (edge_at edges n k l))
          (subst (λ (x : ℕ). is_edge edges (jump_of edges i) x ≡ true) e (edge_at edges n i (omega arith)))

      held : (i : ℕ) → i < k + 1 → Dec (target_of edges i ≡ t) → get_or (set own t v) (target_of edges i) 0 ≡ id_of edges n (jump_of edges i)
      held i q (yes e) =
          ap (λ (x : ℕ). get_or (set own t v) x 0) e
          ∙ get_or-set_same own t v 0 (omega (arith, w.targets k l, h.long))
          ∙ here i q e
      held i q (no e) = get_or-set_other own t (target_of edges i) v 0 e ∙ h.held i (before_k (ℕ_discrete i k))
        where
          before_k : Dec (i ≡ k) → i < k
          before_k (yes z) = absurd (e (ap (target_of edges) z ∙ sym et))
          before_k (no z) = omega arith

  pub owning_all : {before own : List ℕ} {k id : ℕ} → Within edges n → k ≡ edge_count edges → Owning before own k id → OwnersIn n edges own before
  unfolding is_destination
  owning_all w e h =
      record {
        long = h.long;
        past = h.past;
        owned = record {
          within = w;
          held = λ i l. h.held i (omega arith);
          free = λ a l d.
              h.free a l (λ i q z. true_false (any_hit (λ x. eqb (target_of edges x) a) (edge_count edges) i (omega arith) (eq-eqb (target_of edges i) a z)) d);
        };
      }

  -- no target is below the ID
  id_least : (j t : ℕ) → is_edge edges j t ≡ true → id_of edges n j ≤ t
  unfolding id_of
  id_least j t e =
      let above : t < lowest (is_edge edges j) n → ⊥ = λ q. true_false e ((lowest_is (is_edge edges j) n).clean t q) in
      omega (arith, above)

  -- what is put over a front of n numbers is put over the whole
  pub owners_over : {own before : List ℕ} (front : List ℕ) → length front ≡ n → n ≤ length before → OwnersIn n edges own (front ++ drop n before)
      → OwnersIn n edges own before
  owners_over {before = before} front e l x =
      record {
        long = x.long ∙ length-append front (drop n before) ∙ omega (arith, e, length-drop n before);
        past = x.past ∙ ap (λ (k : ℕ). drop k (front ++ drop n before)) (sym e) ∙ drop-append_seam front (drop n before);
        owned = x.owned;
      }

  module _ (own : List ℕ) (o : Owned edges n own) where
    -- a destination's owner is the ID of its set, which is the lowest address of it
    pub owner_is : (a : ℕ) → is_destination edges a ≡ true → (get_or own a 0 ≡ set_of edges n a) × (set_of edges n a ≤ a)
    unfolding is_destination
    owner_is a d = (ap (λ (x : ℕ). get_or own x 0) (sym here) ∙ o.held first low, lowest_of)
      where
        first : ℕ
        first = lowest (λ k. eqb (target_of edges k) a) (edge_count edges)

        low : first < edge_count edges
        low =
            let v = any_witness (λ k. eqb (target_of edges k) a) (edge_count edges) d in
            go v.0 v.1 v.2 (dec_lt first (edge_count edges))
          where
            go : (k : ℕ) → k < edge_count edges → eqb (target_of edges k) a ≡ true → Dec (first < edge_count edges) → first < edge_count edges
            go k l e (yes q) = q
            go k l e (no q) = absurd (true_false e ((lowest_is (λ k. eqb (target_of edges k) a) (edge_count edges)).clean k (omega arith)))

        here : target_of edges first ≡ a
        here = eqb-true (target_of edges first) a ((lowest_is (λ k. eqb (target_of edges k) a) (edge_count edges)).found low)

        edge : is_edge edges (jump_of edges first) a ≡ true
        edge = subst (λ (x : ℕ). is_edge edges (jump_of edges first) x ≡ true) here (edge_at edges n first low)

        lowest_of : set_of edges n a ≤ a
        lowest_of = id_least (jump_of edges first) a edge
