-- `branches::store_near` meets its contract: the chain asks each word from w on.
use Rattle.std.proofs.Common.{rules, tests, refl}
use Rattle.std.proofs.lemmas.Iterator.{YieldsList-from_range}
use Rattle.std.proofs.lemmas.Iterator.Search.{any_from_yields_List}
use mathlib.Core.Path.{◌∙◌}
use native.Mathlib.Omega.{arith}
use Rattle.isa.specs.Instructions.{instr_at, is_store}
use Rattle.guards.proofs.Endings.{near_listed}
use Rattle.checker.proofs.branches.store_near.Goals as goal

pub returns : goal.returns
returns c =
    any_from_yields_List (λ a. is_store (instr_at c.args.code.now.memory.now a)) _ _ _ c.any.ensures.ran
    (YieldsList-from_range c.args.w c.min.result _ refl refl) (λ x b q k. search (rules, tests))
    ∙ near_listed is_store c.args.code.now.memory.now c.args.len c.args.w _ c.args.code.now.n c.min.result
    (λ a. refl) (omega (arith, c.min.ensures)) (omega (arith, c.min.ensures, c.requires))
    (λ x l q. omega (arith, c.min.ensures, c.requires))
