-- Document 01's numbers: for each stop and each answer, and the first of several reasons that applies.
use Rattle.std.specs.Prelude.{ℕ, Bool, cond, List, [], ◌∷◌, Result, Ok, Err}
use Rattle.answers.specs.Numbers.{refusal_number}
use Rattle.machine.specs.declared.Stop.{Stop}
use Rattle.machine.specs.declared.Halt.{Halt}

-- 5 and 6 are document 02's (K8)
abbrev pub stop_number : Stop → ℕ
stop_number Stop.Fetch = 1
stop_number Stop.Illegal = 2
stop_number Stop.Access = 3
stop_number Stop.Next = 4
stop_number Stop.Full = 5
stop_number Stop.Empty = 6

-- what a step comes to, and how a run ends: `Ok tt`, the step made or the run spent, or why not
abbrev pub Outcome : Type 0
Outcome = Result Unit Halt

-- a number of a stop or of a refusal: which of the two it is belongs to it, since both have a 5 and a 6
pub data Number : Type 0 where
  None : Number
  Stopped : ℕ → Number
  Refused : ℕ → Number

-- the stop's or the refusal's number, and none where there is neither
abbrev pub outcome_number : Outcome → Number
outcome_number (Ok _) = Number.None
outcome_number (Err (Halt.Stopped stop)) = Number.Stopped (stop_number stop)
outcome_number (Err (Halt.Refused refusal)) = Number.Refused (refusal_number refusal)

-- a number, and whether its reason applies
pub record Reason (A : Type 0) : Type 0 where
  pub number : A
  pub applies : Bool

abbrev pub reason : {A : Type 0} → A → Bool → Reason A
reason number applies = record { number = number; applies = applies }

-- "the first reason that applies", or `none` where none does
abbrev pub first_reason : {A : Type 0} → A → List (Reason A) → A
first_reason none [] = none
first_reason none (r ∷ reasons) = cond r.applies r.number (first_reason none reasons)
