-- `check_bare` meets its contract: a claim that the checkers keep has its n words in memory, so these can be cut off its front; and the
-- length is that of the rules (`Claimed`).
use mathlib.Core.Path.{sym, ◌∙◌}
use Rattle.bare.proofs.Claimed.{told_kept, claim_sized, ends_small, length_kept}
use Rattle.bare.proofs.Chains.{front_length}
use Rattle.bare.proofs.check_bare.Goals as goal

pub slice_bounds-check_words-end : goal.slice_bounds-check_words-end
slice_bounds-check_words-end c =
    let kept = told_kept (sym c.check_claim.ensures ∙ c.in_ok-ends.was) in
    front_length c.args.memory.now c.args.n (claim_sized c.args.memory.now c.args.n c.args.edges.now kept.0).code_within

pub check_length-requires : goal.check_length-requires
check_length-requires c = ends_small c.args.memory.now c.args.n c.args.edges.now (sym c.check_claim.ensures ∙ c.in_ok-ends.was)

pub returns : goal.returns
returns c =
    c.check_length.ensures
    ∙ length_kept c.args.memory.now c.args.n c.args.edges.now (sym c.check_claim.ensures ∙ c.in_ok-ends.was)
    (sym c.check_words.ensures ∙ c.in_ok-check_words.was)
