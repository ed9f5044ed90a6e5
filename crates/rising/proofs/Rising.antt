-- That edges rise, as a test and as a fact: a search for an edge that does not finds none exactly where of any two the later is above.
use Prim.Native.Nat.{ℕ, zero, suc, ◌+◌, ◌*◌, ◌-◌, ◌≤◌, ◌<◌}
use mathlib.Core.Path.{◌≡◌, refl, sym, ap, subst, ◌∙◌}
use mathlib.Core.Logic.{inl, inr, ⊎_elim}
use mathlib.Core.Bool.{true, false, not, or-true}
use mathlib.Core.List.{List}
use native.Mathlib.Omega.{arith}
use native.Mathlib.Decide.{dec_lt}
use native.Mathlib.Nat.{eq-or-lt_of_le, le_of_suc-le-suc, not-suc-le-zero, suc-mul, mul-le-mul_right}
use lib.Dec.{ltb, eqb}
use borrow.Author.Tests.{ltb-true, lt-ltb, eqb-true, eq-eqb, not-true, not-false}
use Rattle.lists.proofs.Bools.{and_left, and_right, and_rest, either, true_false, refuted}
use Rattle.lists.proofs.Search.{Clean, lowest_is, lowest_none, clean_of}
use Rattle.graph.specs.Claim.{edge_count, jump_of, target_of}
use Rattle.rising.specs.Inside.{rank_of, IsRank}
use Rattle.rising.specs.Rising.{is_above, not_rising, first_not_rising, Above, Rising, FirstNotRising}

product_up : (b : ℕ) {i k : ℕ} → i < k → i * b + b ≤ k * b
product_up b {i} {k} l = let s : i * b + b ≡ suc i * b = sym (suc-mul i b) in omega (arith, mul-le-mul_right b l)

module _ (edges : List ℕ) where
  -- ---- one edge above another

  above_fact : (i k : ℕ) → is_above edges i k ≡ true → Above edges i k
  above_fact i k e =
      ⊎_elim
      (λ p. inl (ltb-true (jump_of edges i) (jump_of edges k) p))
      (λ p. inr (
        eqb-true (jump_of edges i) (jump_of edges k) (and_left _ _ p),
        ltb-true (target_of edges i) (target_of edges k) (and_right (eqb (jump_of edges i) (jump_of edges k)) _ p),
      ))
      (either (ltb (jump_of edges i) (jump_of edges k)) _ e)

  fact_above : (i k : ℕ) → Above edges i k → is_above edges i k ≡ true
  fact_above i k (inl l) = rw (lt-ltb (jump_of edges i) (jump_of edges k) l)
  fact_above i k (inr p) =
      rw (eq-eqb (jump_of edges i) (jump_of edges k) p.0, lt-ltb (target_of edges i) (target_of edges k) p.1)
      (or-true (ltb (jump_of edges i) (jump_of edges k)))

  above_trans : (i k l : ℕ) → Above edges i k → Above edges k l → Above edges i l
  above_trans i k l (inl p) (inl q) = inl (omega arith)
  above_trans i k l (inl p) (inr q) = inl (omega (arith, q.0))
  above_trans i k l (inr p) (inl q) = inl (omega (arith, p.0))
  above_trans i k l (inr p) (inr q) = inr (p.0 ∙ q.0, omega (arith, p.1, q.1))

  -- the two numbers of an edge as one: the edge above has the higher
  pub rank_up : (b i k : ℕ) → target_of edges i < b → Above edges i k → rank_of b edges i < rank_of b edges k
  rank_up b i k l (inl p) = omega (arith, product_up b p)
  rank_up b i k l (inr p) = let same : jump_of edges i * b ≡ jump_of edges k * b = ap (λ (x : ℕ). x * b) p.0 in omega (arith, p.1)

  -- so the two numbers tell whether an edge rises
  module _ {b x y : ℕ} (k : ℕ) (here : IsRank b y edges k) (before : IsRank b x edges (k - 1)) where
    rank_above : x < y → Above edges (k - 1) k
    rank_above p = go (dec_lt (jump_of edges k) (jump_of edges (k - 1)))
      where
        go : Dec (jump_of edges k < jump_of edges (k - 1)) → Above edges (k - 1) k
        go (yes q) = absurd (omega (arith, before.is, here.is, here.narrow, product_up b q))
        go (no q) =
            ⊎_elim
            (λ e.
            let same : jump_of edges (k - 1) * b ≡ jump_of edges k * b = ap (λ (j : ℕ). j * b) e in
            inr (e, omega (arith, before.is, here.is)))
            (λ l. inl l) (eq-or-lt_of_le (omega arith))

    pub rank_falls : 1 ≤ k → not (ltb x y) ≡ not_rising edges k
    rank_falls l = rw (lt-ltb 0 k l) (ap not (go (dec_lt x y)))
      where
        go : Dec (x < y) → ltb x y ≡ is_above edges (k - 1) k
        go (yes p) = lt-ltb x y p ∙ sym (fact_above (k - 1) k (rank_above p))
        go (no p) =
            refuted _ (λ e. p (ltb-true x y e))
            ∙ sym (refuted _ λ e. omega (arith, before.is, here.is, rank_up b (k - 1) k before.narrow (above_fact (k - 1) k e)))

  -- ---- all edges

  step : (k : ℕ) → 1 ≤ k → not_rising edges k ≡ false → Above edges (k - 1) k
  step k l e = above_fact (k - 1) k (not-false _ (and_rest (ltb 0 k) _ (lt-ltb 0 k l) e))

  pub clean_rising : Clean (not_rising edges) (edge_count edges) → Rising edges
  clean_rising c i zero l h = absurd (not-suc-le-zero l)
  clean_rising c i (suc k) l h =
      ⊎_elim
      (λ e. subst (λ (x : ℕ). Above edges x (suc k)) (sym e) last)
      (λ q. above_trans i k (suc k) (clean_rising c i k q (omega arith)) last)
      (eq-or-lt_of_le (le_of_suc-le-suc l))
    where
      last : Above edges k (suc k)
      last =
          let e : suc k - 1 ≡ k = omega arith in
          subst (λ (x : ℕ). Above edges x (suc k)) e (step (suc k) (omega arith) (c (suc k) h))

  pub rising_clean : Rising edges → Clean (not_rising edges) (edge_count edges)
  rising_clean r k l = refuted _ λ e.
      let some = ltb-true 0 k (and_left (ltb 0 k) _ e) in
      true_false (fact_above (k - 1) k (r (k - 1) k (omega arith) l)) (not-true _ (and_right (ltb 0 k) _ e))

  -- ---- the first that does not rise

  pub first_found : first_not_rising edges < edge_count edges → FirstNotRising edges (first_not_rising edges)
  first_found l =
      let low = lowest_is (not_rising edges) (edge_count edges) in
      let k = first_not_rising edges in
      let bad = low.found l in
      record {
        within = l;
        not_first = ltb-true 0 k (and_left (ltb 0 k) _ bad);
        not_above = λ a. true_false (fact_above (k - 1) k a) (not-true _ (and_right (ltb 0 k) _ bad));
        rise_before = λ i p q. step i p (low.clean i q);
      }

  pub none_rising : edge_count edges ≤ first_not_rising edges → Rising edges
  none_rising l = clean_rising (clean_of (not_rising edges) (edge_count edges) (first_not_rising edges) refl l)

  pub rising_none : Rising edges → edge_count edges ≡ first_not_rising edges
  rising_none r = lowest_none (not_rising edges) (edge_count edges) (edge_count edges) refl (rising_clean r)
