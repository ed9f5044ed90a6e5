-- `unguarded::is_bare_store` meets its contract: the words are those of the sequence.
use Rattle.std.proofs.Common.{length}
use native.Mathlib.Omega.{arith}
use borrow.Author.Tests.{lt-ltb}
use Rattle.guards.proofs.Arrays.{store_kept}
use Rattle.checker.proofs.unguarded.is_bare_store.Goals as goal

pub invariant_of-sequence : goal.invariant_of-sequence
invariant_of-sequence c =
    let sized = c.args.code.now.sized in
    record {
      sequenced = (store_kept c.args.code.now.n (length c.args.code.now.memory.now) _ _ sized.code_limit sized.whole_limit c.requires.1
          c.store_frees-free.ensures).sequenced;
    }

pub returns : goal.returns
returns c =
    let sized = c.args.code.now.sized in
    let z = c.if-code.false in rw (
      ← c.is_at.ensures,
      c.if-not-is_at.false,
      lt-ltb c.args.code.now.n (length c.args.code.now.memory.now) (omega (arith, sized.code_within)),
      ← (store_kept c.args.code.now.n (length c.args.code.now.memory.now) _ _ sized.code_limit sized.whole_limit c.requires.1
          c.store_frees-free.ensures).same,
      c.ends_at.ensures,
    )
