-- `sets::first_contested` meets its contract: the chain asks each edge.
use Rattle.std.proofs.Common.{rules, tests, ◌≡◌, get_or, ◌+◌}
use Rattle.std.proofs.lemmas.Iterator.{first_from_Range}
use mathlib.Core.Logic.{◌≢◌}
use Rattle.rising.proofs.Rising.{clean_rising}
use Rattle.graph.specs.Claim.{target_of}
use Rattle.checker.proofs.TargetSets.{contested_told}
use Rattle.checker.proofs.sets.first_contested.Goals as goal

pub returns : goal.returns
returns c =
    let claim = c.args.claim.now in
    let n = claim.code.n in
    contested_told claim.edges.now n claim.claimed.within c.args.own.now c.requires (clean_rising _ claim.claimed.rising) c.count.result c.count.ensures
    c.find.result c.map.result
    (first_from_Range _ _ _ c.find.result (λ i. get_or c.args.own.now (target_of claim.edges.now i) 0 ≡ n + 1)
    (λ i. get_or c.args.own.now (target_of claim.edges.now i) 0 ≢ n + 1) c.find.ensures.ran
    (λ x q k. search (rules, tests)) (λ x q k. search (rules, tests)))
    c.map.ensures.cases (λ k j p. search rules)
