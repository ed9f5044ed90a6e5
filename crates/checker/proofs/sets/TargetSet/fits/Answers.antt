-- `sets::TargetSet::fits` meets its contract: each return by the questions asked so far.
use Rattle.std.proofs.Common.{get_or, ℕ}
use mathlib.Core.Path.{ap}
use Rattle.checker.proofs.TargetSets.{told, unlike_broken, new_fits}
use Rattle.checker.proofs.sets.TargetSet.fits.Goals as goal

pub returns-then-not-owned_by : goal.returns-then-not-owned_by
returns-then-not-owned_by c =
    let answer = told _ _ c.if-not-owned_by.true c.owned_by.ensures in
    unlike_broken _ _ c.args.self.now.claim.claimed.within _ _ _ _ c.args.self.now.edges_of c.requires _
    (ap (λ (t : ℕ). get_or c.args.own.now t 0) c.id-id.ensures.is) answer

pub returns-then-owner-self : goal.returns-then-owner-self
returns-then-owner-self c =
    let answer = told _ _ c.if-not-owned_by.false c.owned_by.ensures in
    new_fits _ _ c.args.self.now.claim.claimed.within _ _ _ _ c.args.self.now.edges_of c.requires _
    (ap (λ (t : ℕ). get_or c.args.own.now t 0) c.id-id.ensures.is) answer c.if-owner-self.true
