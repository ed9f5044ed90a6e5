-- Blocks laid one after the other: how long they are together, what stands at each place, and whose block a place is in.
use Prim.Native.Nat.{ℕ, zero, suc, ◌+◌, ◌<◌, ◌≤◌}
use mathlib.Core.Path.{◌≡◌, refl, sym, ap, ◌∙◌}
use mathlib.Core.Logic.{⊎_elim}
use mathlib.Core.List.{List, [], ◌∷◌, ◌++◌}
use native.Mathlib.Omega.{arith}
use native.Mathlib.Nat.{eq-or-lt_of_le, le_of_suc-le-suc, not-suc-le-zero}
use native.Mathlib.Numerals.{add-one}
use native.Mathlib.Decide.{dec_lt}
use lib.ListN.{length, get_or, length-append, get_or-append}
use lib.Seq.{get_or-append-add, sets}
use Rattle.lists.proofs.Places.{sets_append}
use Rattle.guarded.specs.Blocks.{start_of, laid}

module _ (size : ℕ → ℕ) where
  pub start_next : (a : ℕ) → start_of size (suc a) ≡ start_of size a + size a
  unfolding start_of
  start_next a = refl

  -- a block ends before a later one starts
  pub start_after : (b a : ℕ) → a < b → start_of size a + size a ≤ start_of size b
  start_after zero a h = absurd (not-suc-le-zero h)
  start_after (suc b) a h =
      let z = start_next b in
      ⊎_elim
      (λ q. rw q (omega arith))
      (λ q. let l = start_after b a q in omega arith)
      (eq-or-lt_of_le (le_of_suc-le-suc h))

  pub start_le : (b a : ℕ) → a ≤ b → start_of size a ≤ start_of size b
  start_le b a h =
      ⊎_elim (λ q. rw q (omega arith)) (λ q. let l = start_after b a q in omega arith) (eq-or-lt_of_le h)

  -- every place is in a block
  pub locate : (m p : ℕ) → p < start_of size m → (a : ℕ) × (a < m) × (start_of size a ≤ p) × (p < start_of size (suc a))
  unfolding start_of
  locate zero p h = absurd (not-suc-le-zero h)
  locate (suc m) p h = go (λ q. locate m p q) (dec_lt p (start_of size m))
    where
      go : (p < start_of size m → (a : ℕ) × (a < m) × (start_of size a ≤ p) × (p < start_of size (suc a))) → Dec (p < start_of size m)
          → (a : ℕ) × (a < suc m) × (start_of size a ≤ p) × (p < start_of size (suc a))
      go r (yes q) = let l = r q in (l.0, omega (arith, l.1), l.2, l.3)
      go r (no q) = (m, omega arith, omega arith, h)

module _ (block : ℕ → List ℕ) (size : ℕ → ℕ) (fit : (a : ℕ) → length (block a) ≡ size a) where
  pub laid_length : (m : ℕ) → length (laid block m) ≡ start_of size m
  unfolding laid start_of
  laid_length zero = refl
  laid_length (suc m) = length-append (laid block m) (block m) ∙ (rw (laid_length m, fit m) refl)

  pub laid_at : (m a k : ℕ) → a < m → k < size a → get_or (laid block m) (start_of size a + k) 0 ≡ get_or (block a) k 0
  unfolding laid
  laid_at zero a k h l = absurd (not-suc-le-zero h)
  laid_at (suc m) a k h l =
      let len = laid_length m in
      ⊎_elim
      (λ q.
      let z : length (laid block m) + k ≡ start_of size a + k = omega (arith, ap (start_of size) q) in
      ap (λ (x : ℕ). get_or (laid block m ++ block m) x 0) (sym z)
      ∙ get_or-append-add (laid block m) (block m) k 0
      ∙ ap (λ (x : ℕ). get_or (block x) k 0) (sym q))
      (λ q.
      let s = start_after size m a q in
      get_or-append (laid block m) (block m) 0 (start_of size a + k) (omega arith) ∙ laid_at m a k q l)
      (eq-or-lt_of_le (le_of_suc-le-suc h))

-- lists of one number for each place
pub start_ones : (m : ℕ) → start_of (λ _. 1) m ≡ m
unfolding start_of
start_ones zero = refl
start_ones (suc m) = let e = start_ones m in omega arith

module _ (f : ℕ → ℕ) where
  pub ones_length : (m : ℕ) → length (laid (λ a. f a ∷ []) m) ≡ m
  ones_length m = laid_length (λ a. f a ∷ []) (λ _. 1) (λ a. refl) m ∙ start_ones m

  pub ones_at : (m a : ℕ) → a < m → get_or (laid (λ a. f a ∷ []) m) a 0 ≡ f a
  ones_at m a h =
      let z : start_of (λ _. 1) a + 0 ≡ a = let e = start_ones a in omega arith in
      rw z at (laid_at (λ a. f a ∷ []) (λ _. 1) (λ a. refl) m a 0 h (omega arith))

-- for a loop that writes block after block into a lent place
module _ (block : ℕ → List ℕ) (size : ℕ → ℕ) (fit : (a : ℕ) → length (block a) ≡ size a) where
  pub sets_laid : (l : List ℕ) (m : ℕ) → sets l 0 (laid block (m + 1)) ≡ sets (sets l 0 (laid block m)) (start_of size m) (block m)
  unfolding laid
  sets_laid l m =
      let z : 0 + length (laid block m) ≡ start_of size m = let e = laid_length block size fit m in omega arith in
      rw add-one (sets_append (laid block m) (block m) l 0 ∙ ap (λ (x : ℕ). sets (sets l 0 (laid block m)) x (block m)) z)
