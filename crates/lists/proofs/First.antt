-- Laws of the first number that passes a test: that it is the lowest, what tells it, what it tells, and how chains over slices answer it.
use Rattle.std.proofs.Common.{◌≡◌, refl, ◌∙◌, ap, ℕ, ◌+◌, ◌<◌, ◌≤◌, Bool, true, false, cond, ◌||◌, List, [], ◌∷◌, length, take, get_or, arith, subst}
use Prim.Native.Nat.{zero, suc}
use Rattle.std.specs.Prelude.{Some, None, find, position, ltb, eqb}
use Rattle.std.specs.List.{position_or_len, range_with_len, slice_get, fold}
use Rattle.std.proofs.lemmas.Bool.{ltb-true, ltb-false, lt-ltb, le-ltb}
use Rattle.std.proofs.lemmas.List.{length-take-le}
use Rattle.std.proofs.Math.Seq.{take-suc}
use Rattle.std.proofs.lemmas.List.Folds.{find_at, position_or_len_push}
use Rattle.std.proofs.lemmas.List.FromFn.{length-range_with_len, get_or-range_with_len}
use Rattle.std.proofs.lemmas.List.Sums.{position_or_len_is}
use Rattle.std.proofs.lemmas.Option.{slice_get-get_or, slice_get_past}
use native.Mathlib.Nat.{add-zero}
use borrow.Author.Tests.{eq-eqb, ne_eqb}
use Rattle.lists.specs.Search.{lowest, first}
use Rattle.lists.proofs.Bools.{clash, true_false}
use Rattle.lists.proofs.Search.{Clean, clean_more, lowest_is, lowest_at, lowest_none, lowest_ext}

place_is : (f : ℕ → Bool) (xs : List ℕ) → position_or_len f xs ≡ lowest (λ a. f (get_or xs a 0)) (length xs)
place_is f xs =
    let low = lowest_is (λ a. f (get_or xs a 0)) (length xs) in
    position_or_len_is f xs (lowest (λ a. f (get_or xs a 0)) (length xs)) 0 low.within low.clean low.found

at : (n k : ℕ) → k < n → get_or (range_with_len 0 n) k 0 ≡ k
at n k l = get_or-range_with_len 0 n k 0 l ∙ omega arith

-- it is the lowest number that passes, where that is below n
pub first_lowest : (f : ℕ → Bool) (n : ℕ) → first f n ≡ cond (ltb (lowest f n) n) (Some (lowest f n)) None
unfolding first
first_lowest f n =
    find_at f (range_with_len 0 n)
    ∙ rw (place_is f (range_with_len 0 n), length-range_with_len 0 n, lowest_ext (λ a. f (get_or (range_with_len 0 n) a 0)) f n (λ k l. ap f (at n k l)))
    (go (ltb (lowest f n) n) refl)
  where
    go : (b : Bool) → ltb (lowest f n) n ≡ b → slice_get (range_with_len 0 n) (lowest f n) ≡ cond b (Some (lowest f n)) None
    go true e =
        let l = ltb-true _ _ e in
        slice_get-get_or (range_with_len 0 n) (lowest f n) 0 (omega (arith, l, length-range_with_len 0 n)) ∙ ap Some (at n (lowest f n) l)
    go false e = slice_get_past (range_with_len 0 n) (lowest f n) (omega (arith, ltb-false _ _ e, length-range_with_len 0 n))

-- a search that stops at i, and one that passes every number
pub first_at : (f : ℕ → Bool) (n i : ℕ) → i < n → Clean f i → f i ≡ true → Some i ≡ first f n
first_at f n i l c t = let e = lowest_at f n i l c t in rw (first_lowest f n, ← e, lt-ltb i n l)

pub first_none : (f : ℕ → Bool) (n : ℕ) → Clean f n → None ≡ first f n
first_none f n c = let e = lowest_none f n n refl c in rw (first_lowest f n, ← e, le-ltb n n (omega arith))

-- what its answer r tells
pub first_clean : (f : ℕ → Bool) (n : ℕ) → None ≡ first f n → Clean f n
first_clean f n e = go (ltb (lowest f n) n) refl (e ∙ first_lowest f n)
  where
    go : (b : Bool) → ltb (lowest f n) n ≡ b → None ≡ cond b (Some (lowest f n)) None → Clean f n
    go true q e = clash (cc)
    go false q e = λ k l. let z = ltb-false _ _ q in (lowest_is f n).clean k (omega arith)

-- its place is below n, is the lowest, and passes
pub first_found : (f : ℕ → Bool) (n i : ℕ) → Some i ≡ first f n → (i < n) × (i ≡ lowest f n) × (f i ≡ true)
first_found f n i e = go (ltb (lowest f n) n) refl (e ∙ first_lowest f n)
  where
    go : (b : Bool) → ltb (lowest f n) n ≡ b → Some i ≡ cond b (Some (lowest f n)) None → (i < n) × (i ≡ lowest f n) × (f i ≡ true)
    go true q e =
        let s : i ≡ lowest f n = cc in
        rw s (ltb-true _ _ q, refl, (lowest_is f n).found (ltb-true _ _ q))
    go false q e = clash (cc)

-- the place of the first of n elements that passes
positions : (p : ℕ → Bool) (xs : List ℕ) (n : ℕ) → n ≤ length xs → position_or_len p (take n xs) ≡ lowest (λ a. p (get_or xs a 0)) n
unfolding lowest
positions p xs zero h = refl
positions p xs (suc n) h =
    let e = positions p xs n (omega arith) in
    let l = length-take-le n xs (omega arith) in
    let w = (lowest_is (λ a. p (get_or xs a 0)) n).within in
    ap (position_or_len p) (take-suc xs n 0 (omega arith))
    ∙ position_or_len_push p (take n xs) (get_or xs n 0)
    ∙ rw (e, l) (go (ltb (lowest (λ a. p (get_or xs a 0)) n) n) refl (p (get_or xs n 0)) w)
  where
    go : (b : Bool) → ltb (lowest (λ a. p (get_or xs a 0)) n) n ≡ b → (t : Bool) → lowest (λ a. p (get_or xs a 0)) n ≤ n
        → cond (eqb (lowest (λ a. p (get_or xs a 0)) n) n) (n + cond t 0 1) (lowest (λ a. p (get_or xs a 0)) n)
        ≡ cond (ltb (lowest (λ a. p (get_or xs a 0)) n) n) (lowest (λ a. p (get_or xs a 0)) n) (cond t n (suc n))
    go true q t w =
        let l = ltb-true _ _ q in rw (q, ne_eqb (lowest (λ a. p (get_or xs a 0)) n) n (λ e. omega (arith, l, e)))
    go false q true w =
        let s : lowest (λ a. p (get_or xs a 0)) n ≡ n = let l = ltb-false _ _ q in omega (arith, l, w) in
        rw (q, eq-eqb _ _ s) (omega arith)
    go false q false w =
        let s : lowest (λ a. p (get_or xs a 0)) n ≡ n = let l = ltb-false _ _ q in omega (arith, l, w) in
        rw (q, eq-eqb _ _ s) (omega arith)

pub first_position : (p : ℕ → Bool) (xs : List ℕ) (n : ℕ) → n ≤ length xs → position p (take n xs) ≡ first (λ a. p (get_or xs a 0)) n
first_position p xs n h = rw (first_lowest (λ a. p (get_or xs a 0)) n, positions p xs n h, length-take-le n xs h)

-- a fold over a list tells whether one of it passes
folded : (f : ℕ → Bool) (xs : List ℕ) (found : Bool) → fold (λ found k. f k || found) found xs ≡ false → (found ≡ false) × (None ≡ find f xs)
folded f [] found e = (e, refl)
folded f (x ∷ xs) found e = go (f x) refl (folded f xs (f x || found) e)
  where
    go : (b : Bool) → f x ≡ b → ((f x || found) ≡ false) × (None ≡ find f xs) → (found ≡ false) × (None ≡ find f (x ∷ xs))
    go true t rest = absurd (true_false (rw t) rest.0)
    go false t rest = (rw t at rest.0, rw t rest.1)

pub folded_none : (f : ℕ → Bool) (a n : ℕ) → fold (λ found k. f k || found) false (range_with_len a n) ≡ false → None ≡ find f (range_with_len a n)
folded_none f a n e = (folded f (range_with_len a n) false e).1

-- a search a block at a time, of n numbers from a on, where none below a passes: the block has the first, or none below its end passes
pub found_in : (f : ℕ → Bool) (a n m i : ℕ) → Clean f a → a + n ≤ m → Some i ≡ find f (range_with_len a n) → Some i ≡ first f m
found_in f a zero m i c l e = clash (cc)
found_in f a (suc n) m i c l e = go (λ d q. found_in f (a + 1) n m i d (omega arith) q) (f a) refl
  where
    go : (Clean f (a + 1) → Some i ≡ find f (range_with_len (a + 1) n) → Some i ≡ first f m) → (b : Bool) → f a ≡ b → Some i ≡ first f m
    go rest true t = (rw t at e) ∙ first_at f m a (omega arith) c t
    go rest false t = rest (clean_more f a c t) (rw t at e)

pub clean_in : (f : ℕ → Bool) (a n : ℕ) → Clean f a → None ≡ find f (range_with_len a n) → Clean f (a + n)
clean_in f a zero c e = rw add-zero c
clean_in f a (suc n) c e = go (λ d q. clean_in f (a + 1) n d q) (f a) refl
  where
    go : (Clean f (a + 1) → None ≡ find f (range_with_len (a + 1) n) → Clean f (a + 1 + n)) → (b : Bool) → f a ≡ b → Clean f (a + suc n)
    go rest true t = let none = rw t at e in clash (cc)
    go rest false t =
        let next : a + 1 + n ≡ a + suc n = omega arith in
        subst (Clean f) next (rest (clean_more f a c t) (rw t at e))
