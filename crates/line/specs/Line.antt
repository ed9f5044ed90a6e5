-- The line that `verdict` prints (document 01, "The post program and its table"): "accepted 9 1 0 (code words, edges as listed,
-- data words). Refused: refused 12 at 7, or refused 3 where no place goes with it; all decimal."
use Rattle.std.specs.Prelude.{ℕ, ◌/◌, ◌≤◌, List, [], ◌∷◌, ◌++◌, length, Result, Ok, Err}
use Rattle.answers.specs.declared.Place.{Place}
use Rattle.answers.specs.declared.Fault.{Fault}
use Rattle.answers.specs.Faults.{fault, Verdict}
use Rattle.answers.specs.Numbers.{refusal_number}
use Rattle.isa.specs.declared.Technique.{Technique}
use Rattle.checker.specs.Verdicts.{verdict_of}
use Rattle.parcel.specs.declared.reader.Counts.{Counts}
use Rattle.parcel.specs.Parcel.{counts, Content, holds, refused, read_of}
use Rattle.line.specs.Text.{decimal_of, Puts}

-- "reads a parcel .. and checks it plain": what comes of it
abbrev pub judged : Verdict → Counts → Result Counts Fault
judged (Ok _) found = Ok found
judged (Err f) found = Err f

unfoldable pub answer_of : Content → Result Counts Fault
answer_of (holds code edges words) =
    judged (verdict_of Technique.Plain (code ++ words) (length code) edges) (counts (length code) (length edges / 2) (length words))
answer_of (refused why) = Err (fault why Place.Nowhere)

-- the bytes of "accepted ", "refused ", " at ", a space and a line end
abbrev pub accepted_text : List ℕ
accepted_text = 97 ∷ 99 ∷ 99 ∷ 101 ∷ 112 ∷ 116 ∷ 101 ∷ 100 ∷ 32 ∷ []

abbrev pub refused_text : List ℕ
refused_text = 114 ∷ 101 ∷ 102 ∷ 117 ∷ 115 ∷ 101 ∷ 100 ∷ 32 ∷ []

abbrev pub at_text : List ℕ
at_text = 32 ∷ 97 ∷ 116 ∷ 32 ∷ []

abbrev pub space_text : List ℕ
space_text = 32 ∷ []

abbrev pub end_text : List ℕ
end_text = 10 ∷ []

abbrev pub place_text : Place → List ℕ
place_text (Place.Edge k) = at_text ++ decimal_of k
place_text (Place.Address a) = at_text ++ decimal_of a
place_text Place.Nowhere = []

unfoldable pub line_of : Result Counts Fault → List ℕ
line_of (Ok found) =
    accepted_text ++ decimal_of found.code ++ space_text ++ decimal_of found.edges ++ space_text ++ decimal_of found.«data» ++ end_text
line_of (Err f) = refused_text ++ decimal_of (refusal_number f.refusal) ++ place_text f.place ++ end_text

-- the line for the bytes of a parcel
abbrev pub verdict_line : List ℕ → List ℕ
verdict_line bytes = line_of (answer_of (read_of 2 bytes))

-- the contract of `verdict_line`: the line stands at the front of the lent place, and fits there
pub record PutsLine (parcel before : List ℕ) (size : ℕ) (after : List ℕ) : Type 0 where
  pub puts : Puts (verdict_line parcel) before 0 size after
  pub fits : size ≤ 80
