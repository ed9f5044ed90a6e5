-- What a call answers in numbers: 0 or the number of a refusal, with its place as two numbers (document 01, "Numbers given, in checking
-- order"); and the call on a program.
use Rattle.std.specs.Prelude.{ℕ, ◌≡◌, cond, List, [], ◌∷◌, Result, Ok, Err}
use Rattle.answers.specs.declared.Place.{Place}
use Rattle.answers.specs.declared.Fault.{Fault}
use Rattle.answers.specs.Faults.{Verdict}
use Rattle.answers.specs.Numbers.{refusal_number}
use Rattle.lists.specs.Places.{shorter, put_over}
use Rattle.checker.specs.Verdicts.{verdict_of}
use Rattle.capi.specs.Words.{too_short}
use Rattle.capi.specs.States.{technique_of}

-- 0 where nothing is refused
abbrev pub answer_number : {T : Type 0} → Result T Fault → ℕ
answer_number (Ok _) = 0
answer_number (Err f) = refusal_number f.refusal

-- the place of what is refused
abbrev pub answer_place : {T : Type 0} → Result T Fault → Place
answer_place (Ok _) = Place.Nowhere
answer_place (Err f) = f.place

-- which kind of place it is, 0 for none, 1 for an edge, 2 for an address; and the place
abbrev pub place_numbers : Place → List ℕ
place_numbers (Place.Edge k) = 1 ∷ k ∷ []
place_numbers (Place.Address a) = 2 ∷ a ∷ []
place_numbers Place.Nowhere = 0 ∷ 0 ∷ []

-- a place put where there is room for it
abbrev pub place_after : Place → List ℕ → List ℕ
place_after at place = cond (shorter place 2) place (put_over (place_numbers at) place)

-- the contract of `put_answer`: the number r of an answer, and the place that the call leaves
pub record AnswerPut {T : Type 0} (answer : Result T Fault) (place : List ℕ) (r : ℕ) (place' : List ℕ) : Type 0 where
  pub number : r ≡ answer_number answer
  pub place_after : place' ≡ place_after (answer_place answer) place

-- 0 where the program is accepted
abbrev pub verdict_number : Verdict → ℕ
verdict_number verdict = answer_number verdict

abbrev pub verdict_place : Verdict → Place
verdict_place verdict = answer_place verdict

-- the contract of `pg_check`: its answer r, and the place that it leaves
pub record CheckCall (technique : ℕ) (memory : List ℕ) (n : ℕ) (edges place : List ℕ) (r : ℕ) (place' : List ℕ) : Type 0 where
  pub answer : r ≡ cond (shorter place 2) too_short (verdict_number (verdict_of (technique_of technique) memory n edges))
  pub place_after :
      place'
      ≡ cond (shorter place 2) place
      (put_over (place_numbers (verdict_place (verdict_of (technique_of technique) memory n edges))) place)
