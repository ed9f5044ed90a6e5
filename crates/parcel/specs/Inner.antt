-- What the inner functions of the reader and of the writer are given and answer. No contract of a public function cites these.
use Rattle.std.specs.Prelude.{ℕ, ◌+◌, ◌*◌, ◌-◌, ◌/◌, ◌%◌, ◌≤◌, ◌≡◌, cond, length, ltb, Option, Some, None, Result, Ok, Err}
use Rattle.answers.specs.declared.Refusal.{Refusal}
use Rattle.answers.specs.declared.Place.{Place}
use Rattle.answers.specs.Faults.{fault}
use Rattle.parcel.specs.declared.reader.Counts.{Counts}
use Rattle.parcel.specs.Parcel.{Written, counts, Content, holds, refused}

-- what the sections hold, before any place is looked at, as `counts_of` says with a fault for the refusal
abbrev pub held_of : Content → Result Counts Refusal
held_of (holds code edges words) = Ok (counts (length code) (length edges / 2) (length words))
held_of (refused why) = Err why

-- what number 6 lets through: a memory of len words, n of them code, and so many edge numbers
pub record WellShaped (len n count : ℕ) : Type 0 where
  pub some_code : 1 ≤ n
  pub code_limit : n ≤ 2048
  pub within : n ≤ len
  pub data_limit : len - n ≤ 2048
  pub few : count ≤ 4096
  pub even : count % 2 ≡ 0

-- how many bytes a parcel has, where an edge number has w
abbrev pub size_of : ℕ → ℕ → ℕ → ℕ → ℕ
size_of len n numbers w = 4 + n * 8 + (4 + numbers * w) + (4 + (len - n) * 8)

-- 18, then 5, then the size, where the first edge that doesn't rise is known
abbrev pub planned_of : ℕ → ℕ → ℕ → Option ℕ → ℕ → ℕ → Written
planned_of len n numbers (Some edge) w room = Err (fault Refusal.EdgeNotRising (Place.Edge edge))
planned_of len n numbers None w room =
    cond (ltb room (size_of len n numbers w)) (Err (fault Refusal.PlaceTooShort Place.Nowhere)) (Ok (size_of len n numbers w))
