-- Beside the table: a store and a load whose sum passes two to the 64 (document 02, K5), in the program of
-- `examples/store-past-top.txt`.
use Rattle.std.specs.Prelude.{ℕ, ◌+◌, ◌-◌, ◌^◌, ◌≡◌, List, [], ◌∷◌, ◌++◌, map, length, set, Ok}
use Rattle.isa.specs.declared.Instr.{Instr}
use Rattle.isa.specs.declared.Technique.{Technique}
use Rattle.isa.specs.Words.{encode_of}
use Rattle.addresses.specs.Addresses.{address_of}
use Rattle.machine.specs.declared.Ran.{Ran}
use Rattle.machine.specs.Numbers.{Number, outcome_number}
use Rattle.machine.specs.Steps.{fresh_of, sum_of}
use Rattle.machine.specs.Runs.{run_of, run_memory}
use Rattle.checker.specs.Verdicts.{verdict_of}

-- the bill, at 4, and a word that a bus write left near the top of its range
abbrev pub near_top : ℕ
near_top = 2 ^ 64 - 4

abbrev pub data_words : List ℕ
data_words = 1200 ∷ near_top ∷ []

-- r4 gets that word; then a store at r4 + 8
abbrev pub storing : List ℕ
storing = map encode_of (Instr.Movi 3 4 ∷ Instr.Ld 4 3 1 ∷ Instr.St 4 5 8 ∷ Instr.Illegal ∷ [])

-- the same with a load
abbrev pub loading : List ℕ
loading = set storing 2 (encode_of (Instr.Ld 5 4 8))

-- a run from a fresh state
abbrev pub run_over : Technique → List ℕ → List ℕ → Ran
run_over t code regs = run_of t 4 100 (code ++ data_words) (fresh_of regs)

-- it stops with 3 at the word at 2, and leaves the memory as it was
pub record StopsWithThree (t : Technique) (code regs : List ℕ) : Type 0 where
  pub stop : outcome_number (run_over t code regs).ending ≡ Number.Stopped 3
  pub count : (run_over t code regs).count ≡ 2
  pub pc : (run_over t code regs).state.pc ≡ 2
  pub memory : run_memory t 4 100 (code ++ data_words) (fresh_of regs) ≡ code ++ data_words

pub record PastTopRuns (regs : List ℕ) : Type 0 where
  pub store_plain : StopsWithThree Technique.Plain storing regs
  pub store_relaxed : StopsWithThree Technique.MemoryGuards storing regs
  pub load_plain : StopsWithThree Technique.Plain loading regs
  pub load_relaxed : StopsWithThree Technique.MemoryGuards loading regs

pub record PastTopShown : Type 0 where
  -- taken modulo two to the 64 the sum would come round to 4, the bill; it is exact
  pub comes_round : sum_of near_top 8 ≡ 4
  pub exact : address_of near_top 8 ≡ 2 ^ 64 + 4
  -- the store is accepted plain, the load by both techniques
  pub store_accepted : verdict_of Technique.Plain (storing ++ data_words) 4 [] ≡ Ok tt
  pub load_accepted : verdict_of Technique.Plain (loading ++ data_words) 4 [] ≡ Ok tt
  pub load_accepted_guarded : verdict_of Technique.MemoryGuards (loading ++ data_words) 4 [] ≡ Ok tt
  -- the runs, for every choice of the 32 registers
  pub runs : (regs : List ℕ) → length regs ≡ 32 → PastTopRuns regs
