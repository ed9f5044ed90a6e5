-- Document 01's number for each refusal, and document 02's.
use Rattle.std.specs.Prelude.{ℕ}
use Rattle.answers.specs.declared.Refusal.{Refusal}

abbrev pub refusal_number : Refusal → ℕ
refusal_number Refusal.CountMissing = 1
refusal_number Refusal.CountLimit = 2
refusal_number Refusal.ItemsMissing = 3
refusal_number Refusal.TrailingBytes = 4
refusal_number Refusal.PlaceTooShort = 5
refusal_number Refusal.Shape = 6
refusal_number Refusal.EdgeFromNoJump = 7
refusal_number Refusal.TargetOutsideCode = 8
refusal_number Refusal.JumpWithoutEdge = 9
refusal_number Refusal.TargetSetsOverlap = 10
refusal_number Refusal.LastWordLegal = 11
refusal_number Refusal.LabelCondition = 12
refusal_number Refusal.StoreUnguarded = 13
refusal_number Refusal.JumpUnguarded = 14
refusal_number Refusal.BranchTarget = 15
refusal_number Refusal.NotData = 16
refusal_number Refusal.NotRegister = 17
refusal_number Refusal.EdgeNotRising = 18
refusal_number Refusal.EdgeTooWide = 19
refusal_number Refusal.LabelOrReserved = 20
refusal_number Refusal.BranchOut = 21
refusal_number Refusal.ResultTooLong = 22
refusal_number Refusal.OutsideCode = 23
