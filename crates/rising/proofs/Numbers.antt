-- Numbers and what they stand for: laws of a list of numbers, of which each stands for a number (`Number`).
use mathlib.Core.Path.{◌≡◌, sym, ap, ◌∙◌}
use mathlib.Core.List.{List, map}
use Prim.Native.Nat.{ℕ, ◌<◌}
use lib.ListN.{length, get_or, set, length-map}
use Rattle.std.proofs.lemmas.List.{get_or-map, map-set}

module _ {A : Type 0} (numbers : List A → List ℕ) (number : A → ℕ) (each : (xs : List A) → numbers xs ≡ map number xs) (xs : List A) where
  pub numbers_length : length (numbers xs) ≡ length xs
  numbers_length = ap length (each xs) ∙ length-map xs number

  pub numbers_set : (i : ℕ) (x : A) → numbers (set xs i x) ≡ set (numbers xs) i (number x)
  numbers_set i x = each (set xs i x) ∙ map-set number xs i x ∙ ap (λ (l : List ℕ). set l i (number x)) (sym (each xs))

  pub number_at : (i : ℕ) (x : A) → i < length xs → x ≡ get_or xs i x → get_or (numbers xs) i 0 ≡ number x
  number_at i x h e = ap (λ (l : List ℕ). get_or l i 0) (each xs) ∙ get_or-map number xs i x 0 h ∙ ap number (sym e)
