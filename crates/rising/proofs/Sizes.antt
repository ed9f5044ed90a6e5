-- Where edges rise, none repeats: one edge more is a pair that none before it is, and so one target more of its jump.
use Prim.Native.Nat.{ℕ, ◌+◌, ◌<◌}
use mathlib.Core.Path.{◌≡◌, refl, sym, ap, subst, ◌∙◌}
use mathlib.Core.Logic.{inl, inr}
use mathlib.Core.Bool.{Bool, true, false, cond, ◌&&◌, ◌||◌}
use mathlib.Core.List.{List}
use native.Mathlib.Omega.{arith}
use native.Mathlib.Decide.{ℕ_discrete}
use lib.Dec.{eqb}
use borrow.Author.Tests.{eq-eqb, ne_eqb, eqb-true}
use Rattle.lists.specs.Search.{bit, count}
use Rattle.lists.proofs.Bools.{and_left, and_right, refuted}
use Rattle.lists.proofs.Search.{any_clean}
use Rattle.lists.proofs.Counts.{count_ext, count_flip}
use Rattle.graph.specs.Claim.{edge_count, jump_of, target_of}
use Rattle.graph.specs.Passes.{Within, edge_in}
use Rattle.graph.proofs.Edges.{edge_more}
use Rattle.rising.specs.Rising.{Above, Rising}

module _ (edges : List ℕ) (n : ℕ) (w : Within edges n) (r : Rising edges) where
  -- how many targets jump j has by the first m edges
  abbrev pub size_in : ℕ → ℕ → ℕ
  size_in m j = count (edge_in edges m j) n

  -- edge k is no edge before it
  new : (k : ℕ) → k < edge_count edges → edge_in edges k (jump_of edges k) (target_of edges k) ≡ false
  unfolding edge_in
  new k l = any_clean (λ i. eqb (jump_of edges i) (jump_of edges k) && eqb (target_of edges i) (target_of edges k)) k (λ i q. refuted _ (λ e. apart i e (r i k q l)))
    where
      apart : (i : ℕ) → (eqb (jump_of edges i) (jump_of edges k) && eqb (target_of edges i) (target_of edges k)) ≡ true → Above edges i k → ⊥
      apart i e (inl p) = omega (arith, eqb-true (jump_of edges i) (jump_of edges k) (and_left _ _ e))
      apart i e (inr p) = omega (arith, p.1, eqb-true (target_of edges i) (target_of edges k) (and_right (eqb (jump_of edges i) (jump_of edges k)) _ e))

  pub size_more : (k j : ℕ) → k < edge_count edges → size_in (k + 1) j ≡ bit (eqb (jump_of edges k) j) + size_in k j
  size_more k j l = go (ℕ_discrete (jump_of edges k) j)
    where
      more : (t : ℕ) → edge_in edges (k + 1) j t ≡ ((eqb (jump_of edges k) j && eqb (target_of edges k) t) || edge_in edges k j t)
      more t = edge_more edges k j t

      go : Dec (jump_of edges k ≡ j) → size_in (k + 1) j ≡ bit (eqb (jump_of edges k) j) + size_in k j
      go (no ne) =
          let other = ne_eqb (jump_of edges k) j ne in
          rw other (count_ext (edge_in edges (k + 1) j) (edge_in edges k j) n (λ t q. more t ∙ rw other) ∙ omega arith)
      go (yes e) =
          let here = eq-eqb (jump_of edges k) j e in
          let target = target_of edges k in
          let flip = count_flip (edge_in edges k j) (edge_in edges (k + 1) j) n target (w.targets k l)
          (λ t ne. sym (more t ∙ rw (here, ne_eqb target t (λ z. ne (sym z)))))
          (more target ∙ rw (here, eq-eqb target target refl)) in
          let is_new : edge_in edges k j target ≡ false = subst (λ (x : ℕ). edge_in edges k x target ≡ false) e (new k l) in
          rw here ((flip ∙ ap (λ (b : Bool). cond b (size_in k j) (size_in k j + 1)) is_new) ∙ omega arith)
