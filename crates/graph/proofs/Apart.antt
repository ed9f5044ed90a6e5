-- Rule 10 as a fact about two jumps: sets that meet are one, at each address of code. By the searches of the rule, both ways.
use Prim.Native.Nat.{ℕ, ◌<◌}
use mathlib.Core.Path.{◌≡◌, refl, sym}
use mathlib.Core.Bool.{Bool, true, false, not, ◌&&◌, beq}
use mathlib.Core.List.{List}
use borrow.Author.Tests.{not-true, not-false}
use Rattle.lists.proofs.Bools.{and_left, and_right, and_rest, both_true, true_false, refuted}
use Rattle.lists.proofs.Search.{any_hit, any_witness, any_none}
use Rattle.graph.specs.Claim.{is_edge}
use Rattle.graph.specs.Rules.{sets_meet, sets_differ, overlaps}

beq_same : (a b : Bool) → beq a b ≡ true → a ≡ b
beq_same true true e = refl
beq_same true false e = sym e
beq_same false true e = e
beq_same false false e = refl

same_beq : (a b : Bool) → a ≡ b → beq a b ≡ true
same_beq true true e = refl
same_beq true false e = sym e
same_beq false true e = e
same_beq false false e = refl

-- the sets of i and j are one, where they meet
abbrev pub OneIfMeeting : List ℕ → ℕ → ℕ → ℕ → Type 0
OneIfMeeting edges n i j =
    (a : ℕ) → a < n → is_edge edges i a ≡ true → is_edge edges j a ≡ true → (b : ℕ) → b < n → is_edge edges i b ≡ is_edge edges j b

module _ (edges : List ℕ) (n : ℕ) where
  pub apart_one : (i j : ℕ) → j < n → overlaps edges n i ≡ false → OneIfMeeting edges n i j
  apart_one i j h e a ha ia ja b hb =
      let meet : sets_meet edges n i j ≡ true = any_hit (λ x. is_edge edges i x && is_edge edges j x) n a ha (both_true ia ja) in
      let none = any_none (λ x. sets_meet edges n i x && sets_differ edges n i x) n e j h in
      let apart = and_rest (sets_meet edges n i j) (sets_differ edges n i j) meet none in
      let agree = any_none (λ x. not (beq (is_edge edges i x) (is_edge edges j x))) n apart b hb in
      beq_same (is_edge edges i b) (is_edge edges j b) (not-false _ agree)

  pub one_apart : (i : ℕ) → ((j : ℕ) → j < n → OneIfMeeting edges n i j) → overlaps edges n i ≡ false
  one_apart i one = refuted _ λ e.
      let j = any_witness (λ x. sets_meet edges n i x && sets_differ edges n i x) n e in
      let a = any_witness (λ x. is_edge edges i x && is_edge edges j.0 x) n (and_left _ _ j.2) in
      let differ = and_right (sets_meet edges n i j.0) _ j.2 in
      let b = any_witness (λ x. not (beq (is_edge edges i x) (is_edge edges j.0 x))) n differ in
      let alike = one j.0 j.1 a.0 a.1 (and_left _ _ a.2) (and_right (is_edge edges i a.0) _ a.2) b.0 b.1 in
      true_false (same_beq _ _ alike) (not-true _ b.2)
