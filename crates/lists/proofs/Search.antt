-- Laws of searches: what the lowest passing number is, how a loop comes to it, and when some number passes.
use Prim.Native.Nat.{ℕ, zero, suc, ◌+◌, ◌<◌, ◌≤◌}
use mathlib.Core.Path.{◌≡◌, refl, sym, ap, subst, ◌∙◌}
use mathlib.Core.Bool.{Bool, true, false, cond, ◌&&◌, or-true, and-true, and-false}
use mathlib.Core.Logic.{⊎_elim}
use native.Mathlib.Omega.{arith}
use native.Mathlib.Nat.{eq-or-lt_of_le, le_of_suc-le-suc, not-suc-le-zero}
use borrow.Author.Tests.{ltb-true, ltb-false}
use borrow.Author.Count.{below_more}
use lib.Dec.{ltb}
use Rattle.lists.specs.Search.{lowest, any}
use Rattle.lists.proofs.Bools.{true_false}

-- no number below i passes
abbrev pub Clean : (ℕ → Bool) → ℕ → Type 0
Clean f i = (k : ℕ) → k < i → f k ≡ false

-- what `lowest` is
pub record Lowest (f : ℕ → Bool) (n r : ℕ) : Type 0 where
  pub within : r ≤ n
  pub clean : Clean f r
  pub found : r < n → f r ≡ true

lowest_step : (f : ℕ → Bool) (n r : ℕ) → Lowest f n r
    → Lowest f (suc n) (cond (ltb r n) r (cond (f n) n (suc n)))
lowest_step f n r h = go (ltb r n) (f n) refl refl
  where
    go : (b t : Bool) → ltb r n ≡ b → f n ≡ t → Lowest f (suc n) (cond (ltb r n) r (cond (f n) n (suc n)))
    go true t e p =
        rw e
        (record { within = let q = h.within in omega arith; clean = h.clean; found = λ l. h.found (ltb-true r n e) })
    go false true e p =
        rw (e, p)
        (record {
          within = omega arith;
          clean = λ k l. h.clean k (let q = ltb-false r n e in omega arith);
          found = λ l. p;
        })
    go false false e p =
        rw (e, p)
        (record {
          within = omega arith;
          clean = λ k l.
              ⊎_elim
              (λ q. ap f q ∙ p)
              (λ q. h.clean k (let z = ltb-false r n e in omega arith))
              (eq-or-lt_of_le (le_of_suc-le-suc l));
          found = λ l. absurd (omega arith);
        })

pub lowest_is : (f : ℕ → Bool) (n : ℕ) → Lowest f n (lowest f n)
unfolding lowest
lowest_is f zero =
    record {
      within = omega arith;
      clean = λ k l. absurd (not-suc-le-zero l);
      found = λ l. absurd (not-suc-le-zero l);
    }
lowest_is f (suc n) = lowest_step f n (lowest f n) (lowest_is f n)

-- only one number is the lowest
pub lowest_unique : (f : ℕ → Bool) (n r : ℕ) → Lowest f n r → r ≡ lowest f n
lowest_unique f n r h =
    let low = lowest_is f n in
    let p : r < lowest f n → ⊥ = λ l. true_false (h.found (let z = low.within in omega arith)) (low.clean r l) in
    let q : lowest f n < r → ⊥ = λ l. true_false (low.found (let z = h.within in omega arith)) (h.clean (lowest f n) l) in
    omega arith

-- a loop that stops at i, and one that passes every number
pub lowest_at : (f : ℕ → Bool) (n i : ℕ) → i < n → Clean f i → f i ≡ true → i ≡ lowest f n
lowest_at f n i l c t = lowest_unique f n i (record { within = omega arith; clean = c; found = λ z. t })

pub lowest_none : (f : ℕ → Bool) (n i : ℕ) → i ≡ n → Clean f i → i ≡ lowest f n
lowest_none f n i e c =
    lowest_unique f n i (record { within = omega arith; clean = c; found = λ z. absurd (omega arith) })

pub clean_none : (f : ℕ → Bool) → Clean f 0
clean_none f k l = absurd (not-suc-le-zero l)

pub clean_more : (f : ℕ → Bool) (i : ℕ) → Clean f i → f i ≡ false → Clean f (i + 1)
clean_more f i c e = below_more (λ (k : ℕ). f k ≡ false) i c e

-- a search that found nothing
pub clean_of : (f : ℕ → Bool) (n k : ℕ) → k ≡ lowest f n → n ≤ k → Clean f n
clean_of f n k e l j q = (lowest_is f n).clean j (omega arith)

-- tests that agree below n
pub lowest_ext : (f g : ℕ → Bool) (n : ℕ) → ((k : ℕ) → k < n → f k ≡ g k) → lowest f n ≡ lowest g n
unfolding lowest
lowest_ext f g zero e = refl
lowest_ext f g (suc n) e = rw (lowest_ext f g n (λ k l. e k (omega arith)), e n (omega arith))

pub any_ext : (f g : ℕ → Bool) (n : ℕ) → ((k : ℕ) → k < n → f k ≡ g k) → any f n ≡ any g n
unfolding any
any_ext f g zero e = refl
any_ext f g (suc n) e = rw (any_ext f g n (λ k l. e k (omega arith)), e n (omega arith))

-- some number passes, and none does
pub any_hit : (f : ℕ → Bool) (n k : ℕ) → k < n → f k ≡ true → any f n ≡ true
unfolding any
any_hit f zero k l t = absurd (not-suc-le-zero l)
any_hit f (suc n) k l t =
    ⊎_elim
    (λ e. let p : f n ≡ true = subst (λ (x : ℕ). f x ≡ true) e t in rw p)
    (λ q. rw (any_hit f n k q t) (or-true (f n)))
    (eq-or-lt_of_le (le_of_suc-le-suc l))

pub any_clean : (f : ℕ → Bool) (n : ℕ) → Clean f n → any f n ≡ false
unfolding any
any_clean f zero c = refl
any_clean f (suc n) c = rw (c n (omega arith), any_clean f n (λ k l. c k (omega arith)))

pub any_witness : (f : ℕ → Bool) (n : ℕ) → any f n ≡ true → (k : ℕ) × (k < n) × (f k ≡ true)
unfolding any
any_witness f zero e = absurd (true_false e refl)
any_witness f (suc n) e = go (λ q. any_witness f n q) (f n) refl
  where
    go : (any f n ≡ true → (k : ℕ) × (k < n) × (f k ≡ true)) → (b : Bool) → f n ≡ b
        → (k : ℕ) × (k < suc n) × (f k ≡ true)
    go r true p = (n, omega arith, p)
    go r false p = let w = r (rw p at e) in (w.0, omega arith, w.2)

pub any_none : (f : ℕ → Bool) (n : ℕ) → any f n ≡ false → Clean f n
any_none f n e k l = go (f k) refl
  where
    go : (b : Bool) → f k ≡ b → f k ≡ false
    go true p = absurd (true_false (any_hit f n k l p) e)
    go false p = p

-- a test that does not depend on the number
pub any_and : (f : ℕ → Bool) (b : Bool) (n : ℕ) → any (λ k. f k && b) n ≡ (any f n && b)
any_and f true n = any_ext _ _ n (λ k l. and-true (f k)) ∙ sym (and-true (any f n))
any_and f false n = any_clean _ n (λ k l. and-false (f k)) ∙ sym (and-false (any f n))
