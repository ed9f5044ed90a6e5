-- `check_guards` meets its contract: rule by rule, the first with a fault answers.
use Rattle.std.proofs.Common.{arith}
use Rattle.lists.proofs.First.{first_clean}
use Rattle.checker.proofs.Rules.{broken_next, broken_last}
use Rattle.checker.proofs.check_guards.Goals as goal

pub returns-in_err-refuse_at : goal.returns-in_err-refuse_at
returns-in_err-refuse_at c = rw broken_next (grind arith)

pub returns-in_err-refuse_at-2 : goal.returns-in_err-refuse_at-2
returns-in_err-refuse_at-2 c = rw (broken_next, broken_next) (grind arith)

pub first_wrong_branch-d-requires : goal.first_wrong_branch-d-requires
first_wrong_branch-d-requires c =
    record {
      stores = first_clean _ _ (grind arith);
      jumps = first_clean _ _ (grind arith);
    }

pub returns : goal.returns
returns c = rw (broken_next, broken_next, broken_last) (grind arith)
