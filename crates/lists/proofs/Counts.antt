-- Laws of counts: of equal tests, of a part, and of one member more.
use Prim.Native.Nat.{ℕ, zero, suc, ◌+◌, ◌<◌, ◌≤◌}
use mathlib.Core.Path.{◌≡◌, refl, sym, subst, ◌∙◌}
use mathlib.Core.Bool.{Bool, true, false, cond}
use mathlib.Core.Logic.{⊎_elim, ◌≢◌}
use native.Mathlib.Omega.{arith}
use native.Mathlib.Nat.{eq-or-lt_of_le, le_of_suc-le-suc, not-suc-le-zero}
use native.Mathlib.Numerals.{add-one}
use native.Mathlib.Nat.{zero-add}
use lib.ListN.{length, get_or}
use mathlib.Core.List.{List, [], ◌∷◌}
use Rattle.std.specs.Prelude.{fold, count_by}
use Rattle.lists.specs.Search.{count, bit}

bit_le : (a b : Bool) → (a ≡ true → b ≡ true) → bit a ≤ bit b
bit_le true b h = rw (h refl) (omega arith)
bit_le false b h = omega arith

bit_eq : (a b : Bool) → bit a ≡ bit b → a ≡ b
bit_eq true true e = refl
bit_eq true false e = absurd (omega arith)
bit_eq false true e = absurd (omega arith)
bit_eq false false e = refl

pub count_none : (f : ℕ → Bool) → 0 ≡ count f 0
unfolding count
count_none f = refl

pub count_more : (f : ℕ → Bool) (k : ℕ) → count f (k + 1) ≡ bit (f k) + count f k
unfolding count
count_more f k = rw add-one

pub count_ext : (f g : ℕ → Bool) (n : ℕ) → ((k : ℕ) → k < n → f k ≡ g k) → count f n ≡ count g n
unfolding count
count_ext f g zero h = refl
count_ext f g (suc n) h = rw (count_ext f g n (λ k l. h k (omega arith)), h n (omega arith))

count_le : (f g : ℕ → Bool) (n : ℕ) → ((k : ℕ) → k < n → f k ≡ true → g k ≡ true) → count f n ≤ count g n
unfolding count
count_le f g zero h = omega arith
count_le f g (suc n) h =
    let a = count_le f g n (λ k l. h k (omega arith)) in
    let b = bit_le (f n) (g n) (h n (omega arith)) in
    omega arith

pub count_max : (f : ℕ → Bool) (n : ℕ) → count f n ≤ n
unfolding count
count_max f zero = omega arith
count_max f (suc n) = let a = count_max f n in let b = bit_le (f n) true (λ _. refl) in omega arith

pub count_zero : (f : ℕ → Bool) (n : ℕ) → ((k : ℕ) → k < n → f k ≡ false) → 0 ≡ count f n
unfolding count
count_zero f zero h = refl
count_zero f (suc n) h = let z = count_zero f n (λ k l. h k (omega arith)) in rw (h n (omega arith)) (omega arith)

-- a part of a set with as many members is the whole
pub count_eq : (f g : ℕ → Bool) (n : ℕ) → ((k : ℕ) → k < n → f k ≡ true → g k ≡ true) → count f n ≡ count g n
    → (k : ℕ) → k < n → f k ≡ g k
unfolding count
count_eq f g zero h e k l = absurd (not-suc-le-zero l)
count_eq f g (suc n) h e k l =
    let a = count_le f g n (λ k l. h k (omega arith)) in
    let b = bit_le (f n) (g n) (h n (omega arith)) in
    ⊎_elim
    (λ q. subst (λ (x : ℕ). f x ≡ g x) (sym q) (bit_eq (f n) (g n) (omega arith)))
    (λ q. count_eq f g n (λ k l. h k (omega arith)) (omega arith) k q)
    (eq-or-lt_of_le (le_of_suc-le-suc l))

-- one member more, or the same
pub count_flip : (f g : ℕ → Bool) (n t : ℕ) → t < n → ((x : ℕ) → x ≢ t → f x ≡ g x) → g t ≡ true
    → count g n ≡ cond (f t) (count f n) (count f n + 1)
unfolding count
count_flip f g zero t l h e = absurd (not-suc-le-zero l)
count_flip f g (suc n) t l h e =
    ⊎_elim
    (λ q. here (f t) refl q)
    (λ q. there (f t) (count_flip f g n t q h e) (h n (λ z. omega arith)))
    (eq-or-lt_of_le (le_of_suc-le-suc l))
  where
    same : t ≡ n → count f n ≡ count g n
    same q = count_ext f g n (λ k r. h k (λ z. omega arith))

    at_n : t ≡ n → g n ≡ true
    at_n q = subst (λ (z : ℕ). g z ≡ true) q e

    here : (b : Bool) → f t ≡ b → t ≡ n
        → bit (g n) + count g n ≡ cond b (bit (f n) + count f n) (bit (f n) + count f n + 1)
    here true p q =
        let a = same q in
        let y : f n ≡ true = subst (λ (z : ℕ). f z ≡ true) q p in
        rw (at_n q, y) (omega arith)
    here false p q =
        let a = same q in
        let y : f n ≡ false = subst (λ (z : ℕ). f z ≡ false) q p in
        rw (at_n q, y) (omega arith)

    there : (b : Bool) → count g n ≡ cond b (count f n) (count f n + 1) → f n ≡ g n
        → bit (g n) + count g n ≡ cond b (bit (f n) + count f n) (bit (f n) + count f n + 1)
    there true p q = rw (q, p)
    there false p q = rw (q, p) (omega arith)

-- the numbers of a list that pass a test, as a chain counts them
count_front : (f : ℕ → Bool) (n : ℕ) → count f (suc n) ≡ bit (f 0) + count (λ k. f (suc k)) n
unfolding count
count_front f zero = refl
count_front f (suc n) = omega (arith, count_front f n)

count_from : (p : ℕ → Bool) (xs : List ℕ) (m : ℕ)
    → fold (λ (a : ℕ) (x : ℕ). a + cond (p x) 1 0) m xs ≡ m + count (λ k. p (get_or xs k 0)) (length xs)
unfolding count
count_from p [] m = let e : m ≡ m + 0 = omega arith in e
count_from p (x ∷ xs) m =
    count_from p xs (m + cond (p x) 1 0)
    ∙ omega (arith, flag (p x), count_front (λ k. p (get_or (x ∷ xs) k 0)) (length xs))
  where
    flag : (b : Bool) → cond b 1 0 ≡ bit b
    flag true = refl
    flag false = refl

pub count_by_count : (p : ℕ → Bool) (xs : List ℕ) → count_by p xs ≡ count (λ k. p (get_or xs k 0)) (length xs)
count_by_count p xs = count_from p xs 0 ∙ zero-add (count (λ k. p (get_or xs k 0)) (length xs))
