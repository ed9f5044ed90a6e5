-- The examples, by computation: definitions unfolded, both sides are the same.
use Prim.Native.Nat.{ℕ}
use Rattle.isa.specs.declared.Technique.{Technique}
use mathlib.Core.Path.{refl}
use Rattle.lists.specs.Search.{lowest, any}
use Rattle.isa.specs.Words.{decode_of, encode_of, word_of}
use Rattle.machine.specs.Steps.{load_of, store_of, call_of, return_of, effect_of, settle_of, intent_of, after_of, memory_after, step_of, step_memory}
use Rattle.machine.specs.Runs.{run_from, run_memory_from, run_of, run_memory}
use Rattle.bus.specs.Bus.{write_data_memory, write_register_of}
use Rattle.graph.specs.Claim.{is_edge, has_edge, is_destination, id_of}
use Rattle.guards.specs.Sequences.{fits, stands_at, ends_at}
use Rattle.guards.specs.Rules.{inside_jump_guard, inside_store_guard}
use Rattle.checker.specs.Verdicts.{first_broken, verdict_of}
use Rattle.integrity.specs.Examples.{ProgramsAccepted, CallsMade, StopFourShown, ReturnsShown, StackStopsShown}

pub programs_accepted : ProgramsAccepted
unfolding verdict_of first_broken lowest any is_edge has_edge is_destination id_of fits stands_at ends_at inside_jump_guard inside_store_guard decode_of encode_of word_of
programs_accepted = record { post = refl; guards = λ d. refl }

pub calls_made : (r : ℕ → ℕ) (d : ℕ) → CallsMade r d
unfolding decode_of encode_of word_of load_of store_of effect_of settle_of intent_of after_of memory_after step_of step_memory write_data_memory write_register_of run_from run_memory_from run_of run_memory
calls_made r d = record { post_steps = refl; post_ends = refl; guarded_steps = refl; guarded_stores = refl }

pub stop_four_shown : (r : ℕ → ℕ) → StopFourShown r
unfolding verdict_of first_broken lowest any is_edge has_edge is_destination id_of fits stands_at ends_at inside_jump_guard inside_store_guard decode_of encode_of word_of load_of store_of effect_of settle_of intent_of after_of memory_after step_of step_memory write_register_of run_from run_memory_from run_of run_memory
stop_four_shown r =
    record {
      branch_to_last = refl;
      branch_out = refl;
      branch_would_stop = refl;
      jump_accepted = refl;
      jump_stops = refl;
      stands_at_jump = refl;
    }

pub returns_shown : (t : Technique) (r : ℕ → ℕ) → ReturnsShown t r
unfolding verdict_of first_broken lowest any is_edge has_edge is_destination id_of fits stands_at ends_at inside_jump_guard inside_store_guard decode_of encode_of word_of call_of return_of effect_of settle_of intent_of after_of memory_after step_of step_memory write_register_of run_from run_memory_from run_of run_memory
returns_shown Technique.Plain r =
    record { accepted = refl; pending = refl; first_home = refl; second_home = refl; steps = refl; none_left = refl }
returns_shown Technique.MemoryGuards r =
    record { accepted = refl; pending = refl; first_home = refl; second_home = refl; steps = refl; none_left = refl }

pub stack_stops_shown : (t : Technique) (r : ℕ → ℕ) → StackStopsShown t r
unfolding verdict_of first_broken lowest any is_edge has_edge is_destination id_of fits stands_at ends_at inside_jump_guard inside_store_guard decode_of encode_of word_of call_of return_of effect_of settle_of intent_of after_of memory_after step_of step_memory run_from run_memory_from run_of run_memory
stack_stops_shown Technique.Plain r =
    record { full_accepted = refl; full_steps = refl; full = refl; empty_accepted = refl; empty = refl }
stack_stops_shown Technique.MemoryGuards r =
    record { full_accepted = refl; full_steps = refl; full = refl; empty_accepted = refl; empty = refl }
