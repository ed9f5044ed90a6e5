-- Laws of the claim: what an edge and an ID are, and how one edge more changes them.
use Prim.Native.Nat.{ℕ, ◌+◌, ◌<◌, ◌≤◌}
use mathlib.Core.Path.{◌≡◌, refl, subst}
use mathlib.Core.Bool.{true, false, ◌&&◌, ◌||◌}
use mathlib.Core.List.{List}
use native.Mathlib.Omega.{arith}
use native.Mathlib.Numerals.{add-one}
use borrow.Author.Tests.{eq-eqb, eqb-true, leb-false}
use lib.Dec.{eqb}
use Rattle.lists.specs.Search.{any}
use Rattle.lists.proofs.Bools.{and_left, and_right, both_true, or_left, true_false}
use Rattle.lists.proofs.Search.{Clean, lowest_is, any_hit, any_witness}
use Rattle.graph.specs.Claim.{edge_count, jump_of, target_of, is_edge, has_edge, id_of}
use Rattle.graph.specs.Rules.{starts_at_no_jump, ends_outside_code}
use Rattle.graph.specs.Passes.{Within, edge_in}

pub within_of : (memory edges : List ℕ) (n : ℕ) → n ≤ 2048 → edge_count edges ≤ 2048
    → Clean (starts_at_no_jump memory n edges) (edge_count edges) → Clean (ends_outside_code n edges) (edge_count edges) → Within edges n
within_of memory edges n s f c7 c8 =
    record {
      small = s;
      few = f;
      jumps = λ k l. leb-false n (jump_of edges k) (or_left _ _ (c7 k l));
      targets = λ k l. leb-false n (target_of edges k) (c8 k l);
    }

-- one edge more
pub edge_none : (edges : List ℕ) (j t : ℕ) → edge_in edges 0 j t ≡ false
unfolding edge_in any
edge_none edges j t = refl

pub edge_more : (edges : List ℕ) (k j t : ℕ)
    → edge_in edges (k + 1) j t ≡ ((eqb (jump_of edges k) j && eqb (target_of edges k) t) || edge_in edges k j t)
unfolding edge_in any
edge_more edges k j t = rw add-one

module _ (edges : List ℕ) (n : ℕ) where
  -- an edge by its place
  pub edge_at : (k : ℕ) → k < edge_count edges → is_edge edges (jump_of edges k) (target_of edges k) ≡ true
  unfolding is_edge
  edge_at k l =
      any_hit _ (edge_count edges) k l
      (both_true (eq-eqb (jump_of edges k) (jump_of edges k) refl) (eq-eqb (target_of edges k) (target_of edges k) refl))

  pub edge_of : (j t : ℕ) → is_edge edges j t ≡ true
      → (k : ℕ) × (k < edge_count edges) × (jump_of edges k ≡ j) × (target_of edges k ≡ t)
  unfolding is_edge
  edge_of j t e =
      let v = any_witness _ (edge_count edges) e in (
        v.0,
        v.1,
        eqb-true (jump_of edges v.0) j (and_left _ (eqb (target_of edges v.0) t) v.2),
        eqb-true (target_of edges v.0) t (and_right (eqb (jump_of edges v.0) j) _ v.2),
      )

  pub has_edge_lem : (j t : ℕ) → is_edge edges j t ≡ true → has_edge edges j ≡ true
  unfolding has_edge
  has_edge_lem j t h = let k = edge_of j t h in any_hit _ (edge_count edges) k.0 k.1 (eq-eqb _ _ k.2)

  module _ (w : Within edges n) where
    pub edge_below : (j t : ℕ) → is_edge edges j t ≡ true → (j < n) × (t < n)
    edge_below j t e =
        let v = edge_of j t e in
        let a = w.jumps v.0 v.1 in
        let b = w.targets v.0 v.1 in
        let p = v.2 in
        let q = v.3 in
        (omega arith, omega arith)

    -- the ID of a jump with an edge is a target of it
    pub id_hit : (j t : ℕ) → is_edge edges j t ≡ true → (is_edge edges j (id_of edges n j) ≡ true) × (id_of edges n j < n)
    unfolding id_of
    id_hit j t h =
        let low = lowest_is (is_edge edges j) n in
        let q : n ≤ id_of edges n j → ⊥ = λ z. true_false h (low.clean t (let l = (edge_below j t h).1 in omega arith)) in
        let b : id_of edges n j < n = omega arith in
        (low.found b, b)

    pub id_below : (j : ℕ) → has_edge edges j ≡ true → id_of edges n j < n
    unfolding has_edge
    id_below j h =
        let k = any_witness (λ k. eqb (jump_of edges k) j) (edge_count edges) h in
        let edge = subst (λ (x : ℕ). is_edge edges x (target_of edges k.0) ≡ true) (eqb-true _ _ k.2) (edge_at k.0 k.1) in
        (id_hit j (target_of edges k.0) edge).1
