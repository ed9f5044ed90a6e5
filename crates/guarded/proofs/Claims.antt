-- The new claim is the old one moved: edge by edge, in its sequence, and so its IDs. The map rises, so nothing that the claim says of
-- addresses and their sequence is lost.
use Prim.Native.Nat.{ℕ, zero, suc, ◌+◌, ◌*◌, ◌<◌, ◌≤◌}
use mathlib.Core.Path.{◌≡◌, refl, sym, ap, subst, ◌∙◌}
use mathlib.Core.Logic.{inl, inr}
use mathlib.Core.List.{List}
use native.Mathlib.Omega.{arith}
use lib.Dec.{eqb}
use lib.ListN.{length, get_or}
use borrow.Author.Tests.{eqb-true, eq-eqb}
use Rattle.lists.specs.Search.{lowest}
use Rattle.lists.proofs.Bools.{true_false}
use Rattle.lists.proofs.Search.{lowest_is}
use Rattle.isa.specs.declared.Technique.{Technique}
use Rattle.graph.specs.Claim.{edge_count, jump_of, target_of, is_edge, id_of}
use Rattle.rising.specs.Rising.{Above, Rising}
use Rattle.checker.specs.Conditions.{Listed, IsId, Graph}
use Rattle.checker.proofs.Listed.{place_listed, id_found, id_same}
use Rattle.guarded.specs.Blocks.{start_of}
use Rattle.guarded.specs.Rewrite.{map_of, set_of, new_jump, new_edge, new_edges}
use Rattle.guarded.proofs.Blocks.{laid_length, laid_at}
use Rattle.guarded.proofs.Places.{map_lt, map_le, map_same}

pub start_pairs : (m : ℕ) → start_of (λ _. 2) m ≡ 2 * m
unfolding start_of
start_pairs zero = refl
start_pairs (suc m) = let e = start_pairs m in omega arith

module _ (t : Technique) (bare edges : List ℕ) where
  pub pair : (k : ℕ) → length (new_edge t bare edges k) ≡ 2
  unfolding new_edge
  pair k = refl

  pub edges_length : length (new_edges t bare edges) ≡ 2 * edge_count edges
  edges_length = laid_length (new_edge t bare edges) (λ _. 2) pair (edge_count edges) ∙ start_pairs (edge_count edges)

  pub new_count : edge_count (new_edges t bare edges) ≡ edge_count edges
  new_count = let e = edges_length in omega arith

  edge_number : (k i : ℕ) → k < edge_count edges → i < 2
      → get_or (new_edges t bare edges) (2 * k + i) 0 ≡ get_or (new_edge t bare edges k) i 0
  edge_number k i h l =
      rw (start_pairs k) at (laid_at (new_edge t bare edges) (λ _. 2) pair (edge_count edges) k i h l)

  pub new_jump_lem : (k : ℕ) → k < edge_count edges → jump_of (new_edges t bare edges) k ≡ new_jump t bare edges (jump_of edges k)
  unfolding new_edge
  new_jump_lem k h = let z : 2 * k + 0 ≡ 2 * k = omega arith in rw z at (edge_number k 0 h (omega arith))

  pub new_target : (k : ℕ) → k < edge_count edges → target_of (new_edges t bare edges) k ≡ map_of t bare edges (target_of edges k)
  unfolding new_edge
  new_target k h = edge_number k 1 h (omega arith)

  -- the new jmps are told apart, and in their sequence, as the blocks are that they end
  pub jump_next : (j : ℕ) → new_jump t bare edges j + 1 ≡ map_of t bare edges (suc j)
  jump_next j = let l = map_lt t bare edges j (suc j) (omega arith) in omega arith

  pub jump_same : (i j : ℕ) → new_jump t bare edges i ≡ new_jump t bare edges j → i ≡ j
  jump_same i j e =
      let p = jump_next i in
      let q = jump_next j in
      let z = map_same t bare edges (suc i) (suc j) (omega arith) in
      omega arith

  jump_lt : (i j : ℕ) → i < j → new_jump t bare edges i < new_jump t bare edges j
  jump_lt i j l =
      let p = jump_next i in
      let q = jump_next j in
      let m = map_lt t bare edges (suc i) (suc j) (omega arith) in
      omega arith

  pub rises : Rising edges → Rising (new_edges t bare edges)
  rises r i k l h = go (r i k l below)
    where
      below : k < edge_count edges
      below = let c = new_count in omega arith

      go : Above edges i k → Above (new_edges t bare edges) i k
      go (inl p) =
          let m = jump_lt (jump_of edges i) (jump_of edges k) p in
          inl (omega (arith, new_jump_lem i (omega (arith, below)), new_jump_lem k below))
      go (inr (e, p)) =
          let m = map_lt t bare edges (target_of edges i) (target_of edges k) p in
          inr (
            new_jump_lem i (omega (arith, below)) ∙ ap (new_jump t bare edges) e ∙ sym (new_jump_lem k below),
            omega (arith, new_target i (omega (arith, below)), new_target k below),
          )

  -- an edge moved, and where an edge of the new claim comes from
  pub new_listed : (j x : ℕ) → Listed edges j x → Listed (new_edges t bare edges) (new_jump t bare edges j) (map_of t bare edges x)
  new_listed j x l =
      let c = new_count in
      let h = l.within in
      record {
        place = l.place;
        within = omega arith;
        jump = new_jump_lem l.place h ∙ ap (new_jump t bare edges) l.jump;
        target = new_target l.place h ∙ ap (map_of t bare edges) l.target;
      }

  pub record Moved (J A : ℕ) : Type 0 where
    pub j : ℕ
    pub x : ℕ
    pub listed : Listed edges j x
    pub jump : J ≡ new_jump t bare edges j
    pub target : A ≡ map_of t bare edges x

  pub moved : (J A : ℕ) → Listed (new_edges t bare edges) J A → Moved J A
  moved J A l =
      let c = new_count in
      let h : l.place < edge_count edges = let q = l.within in omega arith in
      record {
        j = jump_of edges l.place;
        x = target_of edges l.place;
        listed = place_listed edges l.place h;
        jump = sym l.jump ∙ new_jump_lem l.place h;
        target = sym l.target ∙ new_target l.place h;
      }

  -- the lowest of a set stays the lowest
  pub id_moved : (j id : ℕ) → IsId edges j id → IsId (new_edges t bare edges) (new_jump t bare edges j) (map_of t bare edges id)
  id_moved j id d =
      record {
        member = new_listed j id d.member;
        lowest_one = λ a l.
            let m = moved _ a l in
            let z = jump_same j m.j m.jump in
            let low = map_le t bare edges id m.x (d.lowest_one m.x (subst (λ (i : ℕ). Listed edges i m.x) (sym z) m.listed)) in
            let e = m.target in
            omega arith;
      }

pub id_low : (edges : List ℕ) (n j : ℕ) → id_of edges n j ≤ n
unfolding id_of
id_low edges n j = (lowest_is (is_edge edges j) n).within

-- where sets that meet are one
module _ (t : Technique) (bare : List ℕ) (n : ℕ) (edges : List ℕ) (g : Graph t bare n edges) where
  has_id : (j x : ℕ) → Listed edges j x → IsId edges j (id_of edges n j)
  has_id j x l = id_found edges n j x l (g.edges_end_in_code j x l)

  same_id : (i j x : ℕ) → Listed edges i x → Listed edges j x → id_of edges n i ≡ id_of edges n j
  same_id i j x p q =
      let d = has_id i x p in
      id_same edges j (id_of edges n i) (id_of edges n j)
      (record {
        member = g.sets_equal_or_apart i j x p q (id_of edges n i) d.member;
        lowest_one = λ a l. d.lowest_one a (g.sets_equal_or_apart j i x q p a l);
      })
      (has_id j x q)

  -- the set of a destination is that of any jump to it
  pub set_id : (j x : ℕ) → Listed edges j x → set_of edges n x ≡ id_of edges n j
  set_id j x l =
      let low = lowest_is (λ k. eqb (target_of edges k) x) (edge_count edges) in
      let k = lowest (λ k. eqb (target_of edges k) x) (edge_count edges) in
      let none : edge_count edges ≤ k → ⊥ = λ q.
      true_false (eq-eqb (target_of edges l.place) x l.target) (low.clean l.place (let h = l.within in omega arith)) in
      let below : k < edge_count edges = omega arith in
      let here = eqb-true (target_of edges k) x (low.found below) in
      same_id (jump_of edges k) j x (subst (Listed edges (jump_of edges k)) here (place_listed edges k below)) l

  -- the new ID of a jump's set is the map of the old one
  pub new_id : (j x id : ℕ) → Listed edges j x → IsId (new_edges t bare edges) (new_jump t bare edges j) id
      → id ≡ map_of t bare edges (id_of edges n j)
  new_id j x id l d =
      id_same (new_edges t bare edges) (new_jump t bare edges j) id (map_of t bare edges (id_of edges n j)) d
      (id_moved t bare edges j (id_of edges n j) (has_id j x l))
