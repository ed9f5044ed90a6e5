-- What the number of the call tells, by cases of the route.
use Rattle.std.proofs.Common.{ℕ, ◌≤◌, ◌≡◌, refl, sym, subst, ◌∙◌, List, arith}
use Rattle.std.specs.Prelude.{Option, Some, None, Ok, Err}
use Rattle.lists.proofs.Bools.{clash}
use Rattle.answers.specs.declared.Refusal.{Refusal}
use Rattle.answers.specs.Numbers.{refusal_number}
use Rattle.paths.specs.Shortest.{Route, count_of, after_route}
use Rattle.manager.specs.Calls.{found_number, found_after, PathCall}
use Rattle.manager.specs.Theorems.{PathAnswersTold}

-- no refusal has that number
small : (refusal : Refusal) → refusal_number refusal ≤ 255
small Refusal.CountMissing = omega arith
small Refusal.CountLimit = omega arith
small Refusal.ItemsMissing = omega arith
small Refusal.TrailingBytes = omega arith
small Refusal.PlaceTooShort = omega arith
small Refusal.Shape = omega arith
small Refusal.EdgeFromNoJump = omega arith
small Refusal.TargetOutsideCode = omega arith
small Refusal.JumpWithoutEdge = omega arith
small Refusal.TargetSetsOverlap = omega arith
small Refusal.LastWordLegal = omega arith
small Refusal.LabelCondition = omega arith
small Refusal.StoreUnguarded = omega arith
small Refusal.JumpUnguarded = omega arith
small Refusal.BranchTarget = omega arith
small Refusal.NotData = omega arith
small Refusal.NotRegister = omega arith
small Refusal.EdgeNotRising = omega arith
small Refusal.EdgeTooWide = omega arith
small Refusal.LabelOrReserved = omega arith
small Refusal.BranchOut = omega arith
small Refusal.ResultTooLong = omega arith
small Refusal.OutsideCode = omega arith

nothing : (route : Route) (path count : List ℕ) → (found_number (count_of route) ≡ 0 → ⊥)
    → (after_route route path ≡ path) × (found_after (count_of route) count ≡ count)
nothing (Ok None) path count h = (refl, refl)
nothing (Ok (Some way)) path count h = absurd (h refl)
nothing (Err why) path count h = (refl, refl)

none : (route : Route) → found_number (count_of route) ≡ 258 → route ≡ Ok None
none (Ok None) e = refl
none (Ok (Some way)) e = clash (omega (arith, e))
none (Err why) e = clash (omega (arith, e, small why.refusal))

pub path_answers_told : PathAnswersTold
path_answers_told =
    record {
      nothing_put = λ technique memory n edges address path count place r path' count' place' c h.
          let z = nothing c.route path count (λ e. h (c.answer ∙ e)) in (c.path_after ∙ z.0, c.count_after ∙ z.1);
      unreachable = λ technique memory n edges address path count place r path' count' place' c e.
          rw (none c.route (sym c.answer ∙ e)) at c.right;
    }
