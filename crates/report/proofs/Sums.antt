-- Sums, highest numbers and counts over the numbers below a bound: one more at a time, and counts by number.
use Prim.Native.Nat.{ℕ, zero, suc, max, ◌+◌, ◌-◌, ◌<◌, ◌≤◌}
use Rattle.std.specs.Prelude.{Option, fold}
use Rattle.std.proofs.lemmas.List.{get_or-take}
use mathlib.Core.Path.{◌≡◌, refl, sym, ap, ap₂, subst, ◌∙◌}
use mathlib.Core.Bool.{Bool, true, false, not, cond, ◌&&◌, ◌||◌}
use mathlib.Core.List.{List, [], ◌∷◌}
use mathlib.Core.Logic.{⊎_elim}
use native.Mathlib.Omega.{arith}
use native.Mathlib.Numerals.{add-one}
use native.Mathlib.Decide.{ℕ_discrete}
use native.Mathlib.Nat.{le_trans, max-le, le-max_left, le-max_right, not-suc-le-zero, eq-or-lt_of_le, le_of_suc-le-suc}
use borrow.Author.Tests.{eq-eqb, ne_eqb, ltb-true, ltb-false}
use lib.Dec.{eqb, ltb}
use lib.ListN.{get_or, set, take, length, replicate, length-take, length-set, length-replicate, get_or-replicate}
use lib.Seq.{get_or-set_same, get_or-set_other}
use Rattle.lists.specs.Search.{any, bit, count}
use Rattle.lists.proofs.Counts.{count_zero, count_ext, count_max, count_flip}
use Rattle.report.specs.Figures.{highest, total}
use Rattle.report.specs.Inside.{number_or, times_in, one_more, Tally}

-- ---- one more at a time
pub times_none : (f : ℕ → ℕ) (s : ℕ) → 0 ≡ times_in f 0 s
unfolding times_in count
times_none f s = refl

times_more : (f : ℕ → ℕ) (a s : ℕ) → times_in f (a + 1) s ≡ bit (eqb (f a) s) + times_in f a s
unfolding times_in count
times_more f a s = rw add-one

-- ---- tests that agree, and bounds
pub total_ext : (f g : ℕ → ℕ) (n : ℕ) → ((k : ℕ) → k < n → f k ≡ g k) → total f n ≡ total g n
unfolding total
total_ext f g zero h = refl
total_ext f g (suc n) h = rw (total_ext f g n (λ k l. h k (omega arith)), h n (omega arith))

pub highest_ext : (f g : ℕ → ℕ) (n : ℕ) → ((k : ℕ) → k < n → f k ≡ g k) → highest f n ≡ highest g n
unfolding highest
highest_ext f g zero h = refl
highest_ext f g (suc n) h = rw (highest_ext f g n (λ k l. h k (omega arith)), h n (omega arith))

pub highest_above : (f : ℕ → ℕ) (n k : ℕ) → k < n → f k ≤ highest f n
unfolding highest
highest_above f zero k l = absurd (not-suc-le-zero l)
highest_above f (suc n) k l =
    ⊎_elim
    (λ q. rw q (le-max_left (f n) (highest f n)))
    (λ q. le_trans (highest_above f n k q) (le-max_right (f n) (highest f n)))
    (eq-or-lt_of_le (le_of_suc-le-suc l))

pub highest_least : (f : ℕ → ℕ) (n b : ℕ) → ((k : ℕ) → k < n → f k ≤ b) → highest f n ≤ b
unfolding highest
highest_least f zero b h = omega arith
highest_least f (suc n) b h = max-le (h n (omega arith)) (highest_least f n b (λ k l. h k (omega arith)))

-- some number passes the test exactly where the count is not 0
pub any_count : (f : ℕ → Bool) (n : ℕ) → any f n ≡ not (eqb (count f n) 0)
unfolding any count
any_count f zero = refl
any_count f (suc n) = go (any_count f n) (f n)
  where
    go : any f n ≡ not (eqb (count f n) 0) → (b : Bool) → (b || any f n) ≡ not (eqb (bit b + count f n) 0)
    go i true = sym (ap not (ne_eqb (1 + count f n) 0 (λ e. omega arith)))
    go i false = let same : count f n ≡ bit false + count f n = omega arith in i ∙ ap (λ (x : ℕ). not (eqb x 0)) same

-- ---- sums of 0, of sums, and with one member
pub total_zero : (f : ℕ → ℕ) (n : ℕ) → ((k : ℕ) → k < n → f k ≡ 0) → total f n ≡ 0
unfolding total
total_zero f zero h = refl
total_zero f (suc n) h = let i = total_zero f n (λ k l. h k (omega arith)) in let k = h n (omega arith) in omega arith

pub total_add : (f g : ℕ → ℕ) (n : ℕ) → total (λ k. f k + g k) n ≡ total f n + total g n
unfolding total
total_add f g zero = refl
total_add f g (suc n) = let i = total_add f g n in omega arith

pub total_one : (x n : ℕ) → x < n → total (λ s. bit (eqb x s)) n ≡ 1
unfolding total
total_one x zero l = absurd (not-suc-le-zero l)
total_one x (suc n) l =
    ⊎_elim
    (λ e. let none = total_zero (λ s. bit (eqb x s)) n (λ k q. ap bit (ne_eqb x k (λ z. omega arith))) in rw (eq-eqb x n e) (omega arith))
    (λ q. let one = total_one x n q in rw (ne_eqb x n (λ z. omega arith)) (omega arith))
    (eq-or-lt_of_le (le_of_suc-le-suc l))

-- ---- counts by number
-- such counts: none, said in another way, and of one number more
pub tally_new : (n : ℕ) → n ≤ 2048 → Tally (take n (replicate 2048 0)) n (λ _. 0)
tally_new n l =
    record {
      size = length-take n (replicate 2048 0) ∙ omega (arith, length-replicate {A = ℕ} 2048 0);
      each = λ j q. get_or-take n (replicate 2048 0) j 0 q ∙ get_or-replicate {A = ℕ} 2048 j 0 0 (omega arith);
    }

tally_as : {xs : List ℕ} {n : ℕ} {F : ℕ → ℕ} (G : ℕ → ℕ) → Tally xs n F → ((j : ℕ) → j < n → F j ≡ G j) → Tally xs n G
tally_as G h e = record { size = h.size; each = λ j l. h.each j l ∙ e j l }

tally_set : {xs : List ℕ} {n : ℕ} {F : ℕ → ℕ} (G : ℕ → ℕ) (i v : ℕ) → Tally xs n F → i < n → v ≡ G i
    → ((j : ℕ) → j < n → (j ≡ i → ⊥) → F j ≡ G j) → Tally (set xs i v) n G
tally_set {xs} {n} {F} G i v h l e o =
    record { size = length-set xs i v ∙ h.size; each = λ j q. go j q (ℕ_discrete j i) }
  where
    go : (j : ℕ) → j < n → Dec (j ≡ i) → get_or (set xs i v) j 0 ≡ G j
    go j q (yes p) =
        subst (λ (x : ℕ). get_or (set xs i v) x 0 ≡ G x) (sym p)
        (get_or-set_same xs i v 0 (let z = h.size in omega arith) ∙ e)
    go j q (no p) = get_or-set_other xs i j v 0 p ∙ h.each j q ∙ o j q p

times_step : (f : ℕ → ℕ) (xs : List ℕ) (n a s : ℕ) {xs' : List ℕ} → Tally xs n (times_in f a) → s ≡ f a
    → xs' ≡ one_more xs s → Tally xs' n (times_in f (a + 1))
times_step f xs n a s h e so = rw so (go (ltb s (length xs)) refl)
  where
    other : (j : ℕ) → (f a ≡ j → ⊥) → times_in f a j ≡ times_in f (a + 1) j
    other j ne = omega (arith, times_more f a j ∙ ap (λ (b : Bool). bit b + times_in f a j) (ne_eqb (f a) j ne))

    go : (b : Bool) → ltb s (length xs) ≡ b → Tally (cond b (set xs s (get_or xs s 0 + 1)) xs) n (times_in f (a + 1))
    go true p =
        let l : s < n = omega (arith, ltb-true s (length xs) p, h.size) in
        tally_set (times_in f (a + 1)) s (get_or xs s 0 + 1) h l
        (omega (arith, h.each s l, times_more f a s ∙ ap (λ (b : Bool). bit b + times_in f a s) (eq-eqb (f a) s (sym e))))
        (λ j q ne. other j (λ z. ne (omega arith)))
    go false p =
        let l : n ≤ s = omega (arith, ltb-false s (length xs) p, h.size) in
        tally_as (times_in f (a + 1)) h (λ j q. other j (λ z. omega arith))

-- the number that the word at a has, if it has one
pub times_next : (f : ℕ → Option ℕ) (xs : List ℕ) (n a : ℕ) (v : Option ℕ) {xs' : List ℕ} → Tally xs n (times_in (λ i. number_or n (f i)) a)
    → v ≡ f a → xs' ≡ one_more xs (number_or (length xs) v) → Tally xs' n (times_in (λ i. number_or n (f i)) (a + 1))
times_next f xs n a v h e so =
    times_step (λ i. number_or n (f i)) xs n a (number_or (length xs) v) h (ap (λ (k : ℕ). number_or k v) h.size ∙ ap (number_or n) e) so

pub times_room : (f : ℕ → ℕ) (xs : List ℕ) (n a : ℕ) → a ≤ 2048 → Tally xs n (times_in f a)
    → (s : ℕ) → s < length xs → get_or xs s 0 < 65535
unfolding times_in
times_room f xs n a l h s q = omega (arith, h.each s (omega (arith, h.size)), count_max (λ i. eqb (f i) s) a)

-- what chains over such counts answer
highest_front : (f : ℕ → ℕ) (n : ℕ) → highest f (suc n) ≡ max (f 0) (highest (λ k. f (suc k)) n)
unfolding highest
highest_front f zero = refl
highest_front f (suc n) = omega (arith, highest_front f n)

fold_max : (xs : List ℕ) (m : ℕ) → fold max m xs ≡ max m (highest (λ k. get_or xs k 0) (length xs))
unfolding highest
fold_max [] m = let e : m ≡ max m 0 = omega arith in e
fold_max (x ∷ xs) m = fold_max xs (max m x) ∙ omega (arith, highest_front (λ k. get_or (x ∷ xs) k 0) (length xs))

pub fold_highest : (xs : List ℕ) → fold max 0 xs ≡ highest (λ k. get_or xs k 0) (length xs)
fold_highest xs = omega (arith, fold_max xs 0)

-- ---- numbers that are new: other than 0, and no earlier one is the same. There are as many as different numbers occur
abbrev pub is_new : (ℕ → ℕ) → ℕ → Bool
is_new f j = not (eqb (f j) 0) && not (any (λ i. eqb (f i) (f j)) j)

pub new_count : (f : ℕ → ℕ) (n a : ℕ) → ((j : ℕ) → j < a → f j ≤ n)
    → count (is_new f) a ≡ count (λ s. any (λ i. eqb (f i) (s + 1)) a) n
unfolding count any
new_count f n zero h = count_zero (λ s. false) n (λ k l. refl)
new_count f n (suc a) h = go (new_count f n a (λ j l. h j (omega arith))) (ℕ_discrete (f a) 0)
  where
    test : ℕ → Bool
    test s = any (λ i. eqb (f i) (s + 1)) a

    by : (b : Bool) (c : ℕ) → bit (not b) + c ≡ cond b c (c + 1)
    by true c = omega arith
    by false c = omega arith

    go : count (is_new f) a ≡ count test n → Dec (f a ≡ 0)
        → bit (is_new f a) + count (is_new f) a ≡ count (λ s. eqb (f a) (s + 1) || any (λ i. eqb (f i) (s + 1)) a) n
    go i (yes p) =
        let same : count test n ≡ count (λ s. eqb (f a) (s + 1) || test s) n =
        count_ext _ _ n (λ s l. sym (ap (λ (b : Bool). b || test s) (ne_eqb (f a) (s + 1) (λ e. omega arith)))) in
        rw (eq-eqb (f a) 0 p) (omega (arith, i, same))
    go i (no p) =
        let back : f a - 1 + 1 ≡ f a = omega arith in
        let low = h a (omega arith) in
        let flip : count (λ s. eqb (f a) (s + 1) || test s) n ≡ cond (test (f a - 1)) (count test n) (count test n + 1) =
        count_flip test (λ s. eqb (f a) (s + 1) || test s) n (f a - 1) (omega arith)
        (λ y ne. sym (ap (λ (b : Bool). b || test y) (ne_eqb (f a) (y + 1) (λ e. ne (omega arith)))))
        (ap (λ (b : Bool). b || test (f a - 1)) (eq-eqb (f a) (f a - 1 + 1) (sym back))) in
        let new : is_new f a ≡ not (test (f a - 1)) =
        ap (λ (b : Bool). not b && not (any (λ i. eqb (f i) (f a)) a)) (ne_eqb (f a) 0 p) ∙ ap (λ (z : ℕ). not (any (λ i. eqb (f i) z) a)) (sym back) in
        ap₂ (λ (b : Bool) (c : ℕ). bit b + c) new i ∙ by (test (f a - 1)) (count test n) ∙ sym flip
