-- The starred rows of document 01, "The post program and its table", in its order and in its numbers. ROWS.md maps each row to
-- its fields.
use Rattle.std.specs.Prelude.{ℕ, ◌+◌, ◌≡◌, List, [], ◌∷◌, ◌++◌, length, set, Ok, Err}
use Rattle.answers.specs.declared.Place.{Place}
use Rattle.answers.specs.Faults.{Verdict}
use Rattle.answers.specs.Numbers.{refusal_number}
use Rattle.isa.specs.declared.Instr.{Instr}
use Rattle.isa.specs.declared.Technique.{Technique}
use Rattle.isa.specs.Words.{decode_of, encode_of}
use Rattle.isa.specs.PostProgram.{post_code, post_edges}
use Rattle.machine.specs.declared.Ran.{Ran}
use Rattle.machine.specs.Numbers.{Number, outcome_number}
use Rattle.machine.specs.Steps.{fresh_of, step_of, step_memory}
use Rattle.machine.specs.Runs.{run_of}
use Rattle.bus.specs.Bus.{write_register_of}
use Rattle.checker.specs.Verdicts.{verdict_of}
use Rattle.parcel.specs.Parcel.{holds, read_of, parcel_of}
use Rattle.table.specs.PostParcel.{post_bytes}

-- a verdict as document 01 writes it: accepted, or a number with the place of an edge or an address, or with none
pub data Paper : Type 0 where
  accepted : Paper
  edge : ℕ → ℕ → Paper
  address : ℕ → ℕ → Paper
  refused : ℕ → Paper

abbrev pub refused_at : ℕ → Place → Paper
refused_at number (Place.Edge k) = edge number k
refused_at number (Place.Address a) = address number a
refused_at number Place.Nowhere = refused number

abbrev pub paper : Verdict → Paper
paper (Ok _) = accepted
paper (Err f) = refused_at (refusal_number f.refusal) f.place

-- the verdict on code without data
abbrev pub verdict : Technique → List ℕ → List ℕ → Paper
verdict t code edges = paper (verdict_of t code (length code) edges)

-- a plain run of the post program's code with some data, from a fresh state
abbrev pub plain_run : List ℕ → List ℕ → Ran
plain_run data_words regs = run_of Technique.Plain 9 100 (post_code ++ data_words) (fresh_of regs)

-- "r5 written to .. after the first step": that step, that bus write, and a plain run
abbrev pub run_after_write : List ℕ → List ℕ → ℕ → Ran
run_after_write data_words regs word =
    run_of Technique.Plain 9 99 (step_memory Technique.Plain 9 (post_code ++ data_words) (fresh_of regs))
    (write_register_of (step_of Technique.Plain 9 (post_code ++ data_words) (fresh_of regs)).state 5 word).state

-- the rows on runs, for every choice of the 32 registers
pub record RunRows (regs : List ℕ) : Type 0 where
  -- "Plain run, limit 100: stop 2, count 8, pc 8."
  pub run_stop : outcome_number (plain_run [] regs).ending ≡ Number.Stopped 2
  pub run_count : (plain_run [] regs).count ≡ 8
  pub run_pc : (plain_run [] regs).state.pc ≡ 8
  -- "r5 written to 0 after the first step: stop 2, count 5 in all, pc 8."
  pub zero_stop : outcome_number (run_after_write [] regs 0).ending ≡ Number.Stopped 2
  pub zero_count : 1 + (run_after_write [] regs 0).count ≡ 5
  pub zero_pc : (run_after_write [] regs 0).state.pc ≡ 8
  -- "Data word 7 at address 9, r5 written to 9 after the first step: plain stop 4 after six steps, pc 6; a relaxed step goes on
  -- to 9."
  pub nine_stop : outcome_number (run_after_write (7 ∷ []) regs 9).ending ≡ Number.Stopped 4
  pub nine_count : 1 + (run_after_write (7 ∷ []) regs 9).count ≡ 6
  pub nine_pc : (run_after_write (7 ∷ []) regs 9).state.pc ≡ 6
  pub nine_relaxed : (step_of Technique.MemoryGuards 9 (post_code ++ 7 ∷ []) (run_after_write (7 ∷ []) regs 9).state).state.pc ≡ 9

pub record Table : Type 0 where
  -- "Word 0000000000000007 (hex) is label 7; 0302000000000007 is movi r2, 7."
  pub label_7 : decode_of 0x0000000000000007 ≡ Instr.Label 7
  pub movi_r2_7 : decode_of 0x0302000000000007 ≡ Instr.Movi 2 7
  -- "0320000000000007 names register 32 and 0600000000000001 has a w: both illegal."
  pub register_32 : decode_of 0x0320000000000007 ≡ Instr.Illegal
  pub jmp_with_w : decode_of 0x0600000000000001 ≡ Instr.Illegal
  -- "Post program, plain: accepted. With memory guards: 14 at 6."
  pub post_plain : verdict Technique.Plain post_code post_edges ≡ accepted
  pub post_memory_guards : verdict Technique.MemoryGuards post_code post_edges ≡ address 14 6
  -- "Without its edge: 9 at 6. With edge (6, 8) instead: 12 at 7."
  pub no_edge : verdict Technique.Plain post_code [] ≡ address 9 6
  pub edge_6_8 : verdict Technique.Plain post_code (6 ∷ 8 ∷ []) ≡ address 12 7
  -- "Word 0 made jd 2: 15 at 0. Made jd 1: accepted."
  pub jd_2 : verdict Technique.Plain (set post_code 0 (encode_of (Instr.Jd 2))) post_edges ≡ address 15 0
  pub jd_1 : verdict Technique.Plain (set post_code 0 (encode_of (Instr.Jd 1))) post_edges ≡ accepted
  -- "Word 4 aimed at 7: 14 at 6."
  pub word_4_at_7 : verdict Technique.Plain (set post_code 4 (encode_of (Instr.Bgt 1 2 7))) post_edges ≡ address 14 6
  pub runs : (regs : List ℕ) → length regs ≡ 32 → RunRows regs
  -- not starred, and proved all the same: "The parcel has 88 bytes.", and these
  pub parcel_size : length post_bytes ≡ 88
  pub parcel_written : parcel_of 2 post_code post_edges [] ≡ post_bytes
  pub parcel_read : read_of 2 post_bytes ≡ holds post_code post_edges []
