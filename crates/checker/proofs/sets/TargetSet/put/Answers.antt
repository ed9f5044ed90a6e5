-- `sets::TargetSet::put` meets its contract: the set is contested, there already, or put in.
use mathlib.Core.Path.{refl}
use Rattle.checker.proofs.TargetSets.{told, put_broken, put_new, put_met}
use Rattle.checker.proofs.sets.TargetSet.put.Goals as goal

pub returns-then-not-fits : goal.returns-then-not-fits
returns-then-not-fits c =
    put_broken _ _ c.args.self.now.claim.claimed.within _ _ _ _ c.args.self.now.edges_of c.requires _ _ c.put_owner.ensures
    (told _ _ c.if-not-fits.true c.fits.ensures) refl

pub returns-then-own-id : goal.returns-then-own-id
returns-then-own-id c =
    put_met _ _ c.args.self.now.claim.claimed.within _ _ _ _ c.args.self.now.edges_of c.requires _
    (told _ _ c.if-not-fits.false c.fits.ensures) c.id-id.ensures.is c.if-own-id.true

pub returns : goal.returns
returns c =
    put_new _ _ c.args.self.now.claim.claimed.within _ _ _ _ c.args.self.now.edges_of c.requires _ _ _
    (told _ _ c.if-not-fits.false c.fits.ensures) c.id-id.ensures.is c.id-id.ensures.below refl c.put_owner-2.ensures
