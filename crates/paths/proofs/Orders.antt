-- The sequence in which paths are better: the shorter first, and of equally long ones the one with the lower address where they first part.
use Rattle.std.proofs.Common.{ℕ, ◌+◌, ◌<◌, ◌≤◌, ◌≡◌, ◌⊎◌, refl, sym, ap, ◌∙◌, Bool, List, [], ◌∷◌, ◌++◌, arith}
use mathlib.Core.Logic.{inl, inr}
use lib.ListN.{length, length-append}
use Rattle.paths.specs.Shortest.{PartsLower, PathTo, Best}

pub longer : (p : List ℕ) (a : ℕ) → length (p ++ a ∷ []) ≡ length p + 1
longer p a = length-append p (a ∷ [])

parts_more : {p q : List ℕ} (x y : List ℕ) → PartsLower p q → PartsLower (p ++ x) (q ++ y)
parts_more x y (PartsLower.Here l) = PartsLower.Here l
parts_more x y (PartsLower.Later h) = PartsLower.Later (parts_more x y h)

parts_last : (p : List ℕ) (a b : ℕ) → a < b → PartsLower (p ++ a ∷ []) (p ++ b ∷ [])
parts_last [] a b l = PartsLower.Here l
parts_last (x ∷ p) a b l = PartsLower.Later (parts_last p a b l)

parts_on : {p q r : List ℕ} → PartsLower p q → PartsLower q r → PartsLower p r
parts_on (PartsLower.Here l) (PartsLower.Here h) = PartsLower.Here (omega (arith, l, h))
parts_on (PartsLower.Here l) (PartsLower.Later h) = PartsLower.Here l
parts_on (PartsLower.Later h) (PartsLower.Here l) = PartsLower.Here l
parts_on (PartsLower.Later h) (PartsLower.Later g) = PartsLower.Later (parts_on h g)

parts_apart : {p q p' q' : List ℕ} → PartsLower p q → PartsLower q' p' → p ≡ p' → q ≡ q' → ⊥
parts_apart (PartsLower.Here {a} {b} l) (PartsLower.Here {a = a'} {b = b'} h) e f =
    let x : a ≡ b' = cc in
    let y : b ≡ a' = cc in
    omega (arith, l, h, x, y)
parts_apart (PartsLower.Here {a} {b} l) (PartsLower.Later {a = c} h) e f =
    let x : a ≡ c = cc in
    let y : b ≡ c = cc in
    omega (arith, l, x, y)
parts_apart (PartsLower.Later {a = c} h) (PartsLower.Here {a} {b} l) e f =
    let x : c ≡ b = cc in
    let y : c ≡ a = cc in
    omega (arith, l, x, y)
parts_apart (PartsLower.Later {p} {q} h) (PartsLower.Later {p = q'} {q = p'} g) e f =
    let x : p ≡ p' = cc in
    let y : q ≡ q' = cc in
    parts_apart h g x y

-- p is better than q
pub data Ahead (p q : List ℕ) : Type 0 where
  shorter : length p < length q → Ahead p q
  lower : length p ≡ length q → PartsLower p q → Ahead p q

pub ahead_last : (p : List ℕ) (a b : ℕ) → a < b → Ahead (p ++ a ∷ []) (p ++ b ∷ [])
ahead_last p a b l = Ahead.lower (longer p a ∙ sym (longer p b)) (parts_last p a b l)

pub ahead_more : {p q : List ℕ} (a b : ℕ) → Ahead p q → Ahead (p ++ a ∷ []) (q ++ b ∷ [])
ahead_more {p} {q} a b (Ahead.shorter l) = Ahead.shorter (omega (arith, longer p a, longer q b, l))
ahead_more {p} {q} a b (Ahead.lower e h) = Ahead.lower (omega (arith, longer p a, longer q b, e)) (parts_more (a ∷ []) (b ∷ []) h)

ahead_on : {p q r : List ℕ} → Ahead p q → Ahead q r → Ahead p r
ahead_on (Ahead.shorter l) (Ahead.shorter h) = Ahead.shorter (omega (arith, l, h))
ahead_on (Ahead.shorter l) (Ahead.lower e h) = Ahead.shorter (omega (arith, l, e))
ahead_on (Ahead.lower e h) (Ahead.shorter l) = Ahead.shorter (omega (arith, l, e))
ahead_on (Ahead.lower e h) (Ahead.lower f g) = Ahead.lower (e ∙ f) (parts_on h g)

-- p is q, or better
abbrev pub AtMost : List ℕ → List ℕ → Type 0
AtMost p q = (p ≡ q) ⊎ Ahead p q

pub most_on : {p q r : List ℕ} → AtMost p q → AtMost q r → AtMost p r
most_on (inl e) m = rw e m
most_on (inr a) (inl e) = rw (← e) (inr a)
most_on (inr a) (inr b) = inr (ahead_on a b)

pub most_more : {p q : List ℕ} (a : ℕ) → AtMost p q → AtMost (p ++ a ∷ []) (q ++ a ∷ [])
most_more a (inl e) = inl (ap (λ (p : List ℕ). p ++ a ∷ []) e)
most_more a (inr h) = inr (ahead_more a a h)

pub most_length : {p q : List ℕ} → AtMost p q → length p ≤ length q
most_length (inl e) = omega (arith, ap length e)
most_length (inr (Ahead.shorter l)) = omega (arith, l)
most_length (inr (Ahead.lower e h)) = omega (arith, e)

module _ (follows : ℕ → ℕ → Bool) (address : ℕ) where
  pub best_by : (way : List ℕ) → PathTo follows address way → ((other : List ℕ) → PathTo follows address other → AtMost way other)
      → Best follows address way
  best_by way path most =
      record { path = path; fewest = λ other p. most_length (most other p); lowest = λ other p e. equal other e (most other p) }
    where
      equal : (other : List ℕ) → length other ≡ length way → AtMost way other → (other ≡ way) ⊎ PartsLower way other
      equal other e (inl same) = inl (sym same)
      equal other e (inr (Ahead.shorter l)) = absurd (omega (arith, e, l))
      equal other e (inr (Ahead.lower f h)) = inr h

  pub one_best : {p q : List ℕ} → Best follows address p → Best follows address q → p ≡ q
  one_best {p} {q} b c =
      let e : length q ≡ length p = omega (arith, b.fewest q c.path, c.fewest p b.path) in
      go (b.lowest q c.path e) (c.lowest p b.path (sym e))
    where
      go : (q ≡ p) ⊎ PartsLower p q → (p ≡ q) ⊎ PartsLower q p → p ≡ q
      go (inl e) m = sym e
      go (inr h) (inl e) = e
      go (inr h) (inr g) = absurd (parts_apart h g refl refl)
