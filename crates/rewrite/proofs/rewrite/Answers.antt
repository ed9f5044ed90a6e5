-- `rewrite` meets its contract: bare code that is checked is what the writing needs (`Verdicts`).
use mathlib.Core.Path.{sym, ◌∙◌}
use Rattle.bare.proofs.Claimed.{told_kept}
use Rattle.rewrite.proofs.Verdicts.{bare_of}
use Rattle.rewrite.proofs.rewrite.Goals as goal

pub invariant_of-bare : goal.invariant_of-bare
invariant_of-bare c =
    let kept = told_kept (sym c.check_bare.ensures ∙ c.in_ok-total.was) in
    record { passed = bare_of _ _ _ kept.0 kept.1 }
