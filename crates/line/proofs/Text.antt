-- Laws of text: a number's digits, and a text put at the front of a place.
use Rattle.std.proofs.Common.{ℕ, ◌+◌, ◌/◌, ◌%◌, ◌^◌, ◌≤◌, ◌<◌, ◌≡◌, sym, ap, ◌∙◌, List, [], ◌∷◌, ◌++◌, arith, length, drop, length-append, append_assoc}
use Rattle.std.proofs.lemmas.Fmt.{decimal_digit, decimal_step, length-decimal-le}
use Rattle.lists.proofs.Places.{over_front}
use Rattle.line.specs.Text.{decimal_of, Puts}

pub decimal_one : (x : ℕ) → x < 10 → decimal_of x ≡ (48 + x) ∷ []
decimal_one x l = decimal_digit x l

-- all but the last digit, which are at most 19, and then the last
module _ (old mid : List ℕ) (x : ℕ) (l : 10 ≤ x) (h : x < 2 ^ 64) (e : mid ≡ old ++ decimal_of (x / 10)) where
  pub decimal_more : (new : List ℕ) → new ≡ mid ++ (48 + x % 10) ∷ [] → new ≡ old ++ decimal_of x
  decimal_more new f = f ∙ rw (e, decimal_step x l h) (append_assoc old (decimal_of (x / 10)) ((48 + x % 10) ∷ []))

  tenth : length mid ≤ length old + 19
  tenth =
      omega (arith, ap length e, length-append old (decimal_of (x / 10)), ap length (decimal_step x l h), length-append (decimal_of (x / 10)) ((48 + x % 10) ∷ []), length-decimal-le 20 x (omega arith) (omega arith) h)

  pub tenth_room : length old ≤ 60 → length mid + 1 ≤ 80
  tenth_room room = omega (arith, tenth)

  pub decimal_short : (new : List ℕ) → length new ≡ length mid + 1 → length new ≤ length old + 20
  decimal_short new f = omega (arith, f, tenth)

pub puts_front : {text before new : List ℕ} {k : ℕ} → new ≡ text → length text ≡ k → k ≤ length before → Puts text before 0 k (new ++ drop k before)
puts_front {text} {before} {new} {k} e l h =
    record { ends = omega (arith, l); bytes = rw (e, ← l) (sym (over_front text before (omega (arith, l, h)))) }
