-- `unguarded::is_guarded_jump` meets its contract: the words, the ID put in, are those of the sequence.
use native.Mathlib.Omega.{arith}
use Rattle.guards.proofs.Arrays.{jump_kept}
use Rattle.checker.proofs.unguarded.is_guarded_jump.Goals as goal

pub invariant_of-sequence : goal.invariant_of-sequence
invariant_of-sequence c =
    let sized = c.args.code.now.sized in
    record {
      sequenced = (jump_kept c.args.technique c.args.code.now.n c.args.id _ _ _ _ _ sized.code_limit (omega (arith, c.requires.0, sized.code_limit))
          c.requires.2 c.id_place.ensures c.id_word.ensures c.jump_length-len.ensures c.jump_frees-free.ensures).sequenced;
    }
