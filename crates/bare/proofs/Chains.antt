-- Chains over the words of a code, as the rules ask: the first place that a test holds at, and whether there is one.
use Prim.Native.Nat.{ℕ, zero, suc, ◌+◌, ◌≤◌, ◌<◌}
use mathlib.Core.Path.{◌≡◌, refl, sym, ap, ◌∙◌}
use mathlib.Core.Bool.{Bool, false, ◌||◌}
use mathlib.Core.List.{List, [], ◌∷◌}
use native.Mathlib.Omega.{arith}
use lib.ListN.{length, get_or, take}
use lib.Seq.{take-length}
use Rattle.std.specs.List.{fold, position}
use Rattle.std.proofs.lemmas.List.{get_or-take, length-take-le}
use Rattle.std.proofs.lemmas.List.Sums.{fold_more}
use Rattle.lists.specs.Search.{first, any}
use Rattle.lists.proofs.Search.{lowest_ext}
use Rattle.lists.proofs.First.{first_position}
use Rattle.answers.specs.declared.Refusal.{Refusal}
use Rattle.isa.specs.Words.{decode_of}
use Rattle.isa.specs.Instructions.{branch_target}
use Rattle.checker.specs.Verdicts.{Rule, rule_per_address, first_broken}
use Rattle.guarded.specs.Rules.{is_unfit, outside, word_rules}

module _ (p : ℕ → Bool) (xs : List ℕ) where
  abbrev test : ℕ → Bool
  test a = p (get_or xs a 0)

  abbrev step : Bool → ℕ → Bool
  step found x = p x || found

  found_before : (i : ℕ) → i ≤ length xs → fold step false (take i xs) ≡ any test i
  unfolding any
  found_before zero l = refl
  found_before (suc i) l =
      let z : i + 1 ≡ suc i = omega arith in
      (rw z at (fold_more step false xs i 0 (omega arith))) ∙ ap (λ (b : Bool). test i || b) (found_before i (omega arith))

  pub found_any : fold step false xs ≡ any test (length xs)
  found_any = ap (fold step false) (sym (take-length xs)) ∙ found_before (length xs) (omega arith)

  pub position_first : position p xs ≡ first test (length xs)
  position_first = ap (position p) (sym (take-length xs)) ∙ first_position p xs (length xs) (omega arith)

-- the words at the front of memory
rule_front : (why : Refusal) (n : ℕ) (f g : ℕ → Bool) (xs ys : List Rule) → ((a : ℕ) → a < n → f a ≡ g a) → first_broken xs ≡ first_broken ys
    → first_broken (rule_per_address why n f ∷ xs) ≡ first_broken (rule_per_address why n g ∷ ys)
unfolding first_broken
rule_front why n f g xs ys e r = rw (lowest_ext f g n e, r) refl

pub words_front : (memory : List ℕ) (n : ℕ) → n ≤ length memory
    → first_broken (word_rules (take n memory) (length (take n memory)) []) ≡ first_broken (word_rules memory n [])
words_front memory n l =
    rw (length-take-le n memory l)
    (rule_front Refusal.LabelOrReserved n _ _ _ _ (λ a h. ap (λ (x : ℕ). is_unfit (decode_of x)) (get_or-take n memory a 0 h))
    (rule_front Refusal.BranchOut n _ _ [] [] (λ a h. ap (λ (x : ℕ). outside n (branch_target (decode_of x))) (get_or-take n memory a 0 h)) refl))

pub front_length : (memory : List ℕ) (n : ℕ) → n ≤ length memory → n ≡ length (take n memory)
front_length memory n l = sym (length-take-le n memory l)
