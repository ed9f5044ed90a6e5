-- Document 01's number of what a bus write answers: the refusal's, and 0 where there is none.
use Rattle.std.specs.Prelude.{ℕ, Result, Ok, Err}
use Rattle.answers.specs.declared.Refusal.{Refusal}
use Rattle.answers.specs.Numbers.{refusal_number}

-- what a bus write answers: `Ok tt`, done, or why it is refused
abbrev pub Written : Type 0
Written = Result Unit Refusal

abbrev pub written_number : Written → ℕ
written_number (Ok _) = 0
written_number (Err refusal) = refusal_number refusal
