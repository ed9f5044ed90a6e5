-- The table, by computation; the registers of the runs are left free.
use Prim.Native.Nat.{ℕ, zero, suc}
use mathlib.Core.Path.{◌≡◌, refl}
use mathlib.Core.List.{List, [], ◌∷◌}
use native.Mathlib.Omega.{arith}
use lib.ListN.{length}
use Rattle.lists.specs.Search.{lowest, any}
use Rattle.lists.proofs.Bools.{clash}
use Rattle.isa.specs.Words.{decode_of, word_of, encode_of}
use Rattle.machine.specs.Steps.{
  load_of,
  store_of,
  effect_of,
  settle_of,
  intent_of,
  after_of,
  memory_after,
  step_of,
  step_memory,
}
use Rattle.machine.specs.Runs.{run_from, run_of}
use Rattle.bus.specs.Bus.{write_register_of}
use Rattle.graph.specs.Claim.{is_edge, has_edge, is_destination, id_of}
use Rattle.guards.specs.Sequences.{fits, stands_at, ends_at}
use Rattle.guards.specs.Rules.{inside_jump_guard, inside_store_guard}
use Rattle.checker.specs.Verdicts.{first_broken, verdict_of}
use Rattle.parcel.specs.Bytes.{number_of, bytes_of, numbers_of, all_bytes_of}
use Rattle.parcel.specs.Parcel.{count_of, section_from, at_end, read_of, section_of, parcel_of}
use Rattle.table.specs.Table.{RunRows, Table}

-- what holds of every k numbers in a row holds of every list of length k
abbrev pub ForEach : ℕ → (List ℕ → Type 0) → Type 0
ForEach zero P = P []
ForEach (suc k) P = (x : ℕ) → ForEach k (λ xs. P (x ∷ xs))

pub of_length : (k : ℕ) (P : List ℕ → Type 0) → ForEach k P → (xs : List ℕ) → length xs ≡ k → P xs
of_length zero P h [] e = h
of_length zero P h (x ∷ xs) e = clash (omega arith)
of_length (suc k) P h [] e = clash (omega arith)
of_length (suc k) P h (x ∷ xs) e = of_length k (λ ys. P (x ∷ ys)) (h x) xs (omega arith)

run_rows : (regs : List ℕ) → length regs ≡ 32 → RunRows regs
unfolding decode_of word_of encode_of load_of store_of effect_of settle_of intent_of after_of memory_after step_of step_memory write_register_of run_from run_of
run_rows =
    of_length 32 RunRows
    (λ r0 r1 r2 r3 r4 r5 r6 r7 r8 r9 r10 r11 r12 r13 r14 r15 r16 r17 r18 r19 r20 r21 r22 r23 r24 r25 r26 r27 r28 r29 r30 r31.
    record {
      run_stop = refl;
      run_count = refl;
      run_pc = refl;
      zero_stop = refl;
      zero_count = refl;
      zero_pc = refl;
      nine_stop = refl;
      nine_count = refl;
      nine_pc = refl;
      nine_relaxed = refl;
    })

pub table : Table
unfolding decode_of word_of encode_of verdict_of first_broken lowest any is_edge has_edge is_destination id_of fits stands_at ends_at inside_jump_guard inside_store_guard number_of bytes_of numbers_of all_bytes_of count_of section_from at_end read_of section_of parcel_of
table =
    record {
      label_7 = refl;
      movi_r2_7 = refl;
      register_32 = refl;
      jmp_with_w = refl;
      post_plain = refl;
      post_memory_guards = refl;
      no_edge = refl;
      edge_6_8 = refl;
      jd_2 = refl;
      jd_1 = refl;
      word_4_at_7 = refl;
      runs = run_rows;
      parcel_size = refl;
      parcel_written = refl;
      parcel_read = refl;
    }
