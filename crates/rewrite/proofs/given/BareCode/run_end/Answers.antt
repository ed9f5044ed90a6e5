-- `BareCode::run_end` meets its contract: as in the checker, the chain asks each edge from k on.
use Rattle.std.proofs.Common.{rules, tests, ◌≡◌, arith}
use Rattle.std.proofs.lemmas.Iterator.{first_from_Range}
use mathlib.Core.Logic.{◌≢◌}
use Rattle.graph.specs.Claim.{jump_of}
use Rattle.checker.proofs.Runs.{run_told}
use Rattle.rewrite.proofs.given.BareCode.run_end.Goals as goal

pub returns : goal.returns
returns c =
    let edges = c.args.self.now.edges.now in
    run_told edges c.args.j c.args.k c.count-m.result c.unwrap_or.result c.find.result (omega (arith, c.requires, c.count-m.ensures)) c.count-m.ensures c.unwrap_or.ensures
    (first_from_Range _ _ _ c.find.result (λ i. jump_of edges i ≢ c.args.j) (λ i. jump_of edges i ≡ c.args.j) c.find.ensures.ran
    (λ x q k. grind (arith, tests))
    (λ x q k. (search rules, grind (arith, tests))))
