-- `patterns::Sequence::stands_at` meets its contract: the chain asks each word of the sequence.
use Rattle.std.proofs.Common.{rules, tests, refl, arith}
use Rattle.std.proofs.lemmas.Iterator.{YieldsList-from_range}
use Rattle.std.proofs.lemmas.Iterator.Search.{all_from_yields_List}
use mathlib.Core.Path.{◌∙◌}
use lib.ListN.{length}
use Rattle.guards.proofs.Arrays.{fits_at, all_fit}
use Rattle.checker.proofs.patterns.Sequence.stands_at.Goals as goal

pub returns : goal.returns
returns c =
    let s = c.args.self.now in
    all_from_yields_List (fits_at c.args.memory.now s.words.now s.free.now c.args.b) _ _ c.all.result c.all.ensures.ran
    (YieldsList-from_range 0 _ (length s.words.now) refl (omega arith)) (λ x r q k. search (rules, tests))
    ∙ all_fit c.args.memory.now s.words.now s.free.now c.args.b (length s.words.now)
