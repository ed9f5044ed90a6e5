-- The store and the load past the top, by computation; the registers are left free.
use Prim.Native.Nat.{ℕ}
use mathlib.Core.Path.{◌≡◌, refl}
use mathlib.Core.List.{List}
use lib.ListN.{length}
use Rattle.lists.specs.Search.{lowest, any}
use Rattle.isa.specs.Words.{decode_of, word_of, encode_of}
use Rattle.machine.specs.Steps.{load_of, store_of, effect_of, settle_of, intent_of, after_of, memory_after, step_of, step_memory}
use Rattle.machine.specs.Runs.{run_from, run_memory_from, run_of, run_memory}
use Rattle.graph.specs.Claim.{is_edge, has_edge, is_destination, id_of}
use Rattle.guards.specs.Sequences.{fits, stands_at, ends_at}
use Rattle.guards.specs.Rules.{inside_jump_guard, inside_store_guard}
use Rattle.checker.specs.Verdicts.{first_broken, verdict_of}
use Rattle.table.specs.PastTop.{PastTopRuns, PastTopShown}
use Rattle.table.proofs.Table.{of_length}

past_top_runs : (regs : List ℕ) → length regs ≡ 32 → PastTopRuns regs
unfolding decode_of word_of encode_of load_of store_of effect_of settle_of intent_of after_of memory_after step_of step_memory run_from run_memory_from run_of run_memory
past_top_runs =
    of_length 32 PastTopRuns
    (λ r0 r1 r2 r3 r4 r5 r6 r7 r8 r9 r10 r11 r12 r13 r14 r15 r16 r17 r18 r19 r20 r21 r22 r23 r24 r25 r26 r27 r28 r29 r30 r31.
    record {
      store_plain = record { stop = refl; count = refl; pc = refl; memory = refl };
      store_relaxed = record { stop = refl; count = refl; pc = refl; memory = refl };
      load_plain = record { stop = refl; count = refl; pc = refl; memory = refl };
      load_relaxed = record { stop = refl; count = refl; pc = refl; memory = refl };
    })

pub past_top_shown : PastTopShown
unfolding verdict_of first_broken lowest any is_edge has_edge is_destination id_of fits stands_at ends_at inside_jump_guard inside_store_guard decode_of word_of encode_of
past_top_shown =
    record {
      comes_round = refl;
      exact = refl;
      store_accepted = refl;
      load_accepted = refl;
      load_accepted_guarded = refl;
      runs = past_top_runs;
    }
