-- The first edge of each jump, as the edges are passed one by one.
use Rattle.std.proofs.Common.{sym, ℕ, zero, suc, ◌+◌, ◌-◌, ◌<◌, ◌≡◌, subst, ◌∙◌, true, false, List, arith}
use native.Mathlib.Decide.{dec_lt}
use borrow.Author.Tests.{eqb-true, not-false}
use lib.Dec.{eqb}
use lib.ListN.{length, get_or, set, length-set}
use lib.Seq.{get_or-set_same, get_or-set_other}
use Rattle.lists.proofs.Bools.{clash, or_left, or_right}
use Rattle.graph.specs.Claim.{edge_count, jump_of}
use Rattle.rising.specs.Rising.{Rising}
use Rattle.checker.specs.Passes.{is_first}
use Rattle.checker.proofs.Runs.{Cut, first_cut}
use Rattle.paths.specs.Given.{FirstOf}

-- those of the first k edges are there
pub record FirstsTo (edges firsts : List ℕ) (k : ℕ) : Type 0 where
  pub size : length firsts ≡ 2048
  pub each : (i : ℕ) → i < k → FirstOf edges (jump_of edges i) (get_or firsts (jump_of edges i) 0)

module _ (edges : List ℕ) (rising : Rising edges) {firsts : List ℕ} (k : ℕ) (l : k < edge_count edges) (h : FirstsTo edges firsts k) where
  pub firsts_put : (j : ℕ) → j ≡ jump_of edges k → j < 2048 → is_first edges k ≡ true → FirstsTo edges (set firsts j k) (k + 1)
  firsts_put j e low first = record { size = length-set firsts j k ∙ h.size; each = λ i s. go i s (dec_lt i k) }
    where
      cut : Cut edges (jump_of edges k) k
      cut = first_cut edges rising k l first

      go : (i : ℕ) → i < k + 1 → Dec (i < k) → FirstOf edges (jump_of edges i) (get_or (set firsts j k) (jump_of edges i) 0)
      go i s (yes q) = rw (get_or-set_other firsts j (jump_of edges i) k 0 (λ z. omega (arith, z, e, cut.below i q))) (h.each i q)
      go i s (no q) =
          let here : i ≡ k = omega (arith, s, q) in
          rw (here, ← e, get_or-set_same firsts j k 0 (omega (arith, low, h.size))) (record { within = l; jump = sym e; first = first })

  pub firsts_same : is_first edges k ≡ false → FirstsTo edges firsts (k + 1)
  firsts_same later = record { size = h.size; each = λ i s. go i s (dec_lt i k) }
    where
      before : jump_of edges (k - 1) ≡ jump_of edges k
      before = eqb-true _ _ (not-false _ (or_right (eqb k 0) _ later))

      some : 0 < k
      some = go k (or_left (eqb k 0) _ later)
        where
          go : (k : ℕ) → eqb k 0 ≡ false → 0 < k
          go zero e = clash (cc)
          go (suc k) e = omega arith

      go : (i : ℕ) → i < k + 1 → Dec (i < k) → FirstOf edges (jump_of edges i) (get_or firsts (jump_of edges i) 0)
      go i s (yes q) = h.each i q
      go i s (no q) =
          let here : i ≡ k = omega (arith, s, q) in
          rw here (subst (λ (j : ℕ). FirstOf edges j (get_or firsts j 0)) before (h.each (k - 1) (omega (arith, some))))
