-- `sets::TargetSet::owned_by` meets its contract: the chain asks each edge of the set.
use Rattle.std.proofs.Common.{rules, tests, ◌≡◌, get_or, refl}
use Rattle.std.proofs.lemmas.Iterator.{cases_from_all, serves_from_Range, YieldsList-from_range}
use mathlib.Core.Logic.{◌≢◌}
use Rattle.graph.specs.Claim.{target_of}
use Rattle.checker.proofs.Runs.{owned_told}
use Rattle.checker.proofs.sets.TargetSet.owned_by.Goals as goal

pub all-requires-clause-callable : goal.all-requires-clause-callable
all-requires-clause-callable c =
    serves_from_Range (λ x q k. search (rules, tests)) (λ x l q. let u = c.args.self.now.edges_of.upto in search rules)

pub returns : goal.returns
returns c =
    let edges = c.args.self.now.claim.edges.now in
    owned_told _ _ _ _ c.args.self.now.edges_of c.args.own.now c.args.owner c.all.result
    (cases_from_all _ _ c.all.result (λ i. get_or c.args.own.now (target_of edges i) 0 ≡ c.args.owner)
    (λ i. get_or c.args.own.now (target_of edges i) 0 ≢ c.args.owner) c.all.ensures.ran
    (YieldsList-from_range c.args.self.now.first c.args.self.now.end _ refl refl)
    (λ x q k. (search (rules, tests), search (rules, tests))) (λ x q k. search (rules, tests)))
