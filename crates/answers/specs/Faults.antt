-- What a refusal says: its number's name, and the place of the first fault.
use Rattle.std.specs.Prelude.{Option, Some, None, Result, Ok, Err}
use Rattle.answers.specs.declared.Refusal.{Refusal}
use Rattle.answers.specs.declared.Place.{Place}
use Rattle.answers.specs.declared.Fault.{Fault}

abbrev pub fault : Refusal → Place → Fault
fault why place = record { refusal = why; place = place }

-- what a check answers: `Ok tt`, accepted, or the first fault
abbrev pub Verdict : Type 0
Verdict = Result Unit Fault

-- accepted where no place is faulty
abbrev pub refusal_at : Refusal → Option Place → Verdict
refusal_at why None = Ok tt
refusal_at why (Some place) = Err (fault why place)
