-- The bus writes (document 01, "Steps"; 000, figure 2, one place a time).
use Rattle.std.specs.Prelude.{ℕ, ◌≡◌, Bool, not, cond, ◌&&◌, List, [], ◌∷◌, length, set, ltb, leb, Ok, Err}
use Rattle.answers.specs.declared.Refusal.{Refusal}
use Rattle.answers.specs.Shape.{memory_shaped}
use Rattle.machine.specs.declared.State.{State}
use Rattle.machine.specs.Numbers.{reason, first_reason}
use Rattle.machine.specs.Steps.{state_of, depth_fits}
use Rattle.bus.specs.declared.RegisterWritten.{RegisterWritten}
use Rattle.bus.specs.Numbers.{Written, written_number}

-- "The data memory follows the code directly: D words, .. from address n."
abbrev pub in_data : ℕ → ℕ → ℕ → Bool
in_data n len address = leb n address && ltb address len

-- 6, then 16: "A bus write names an address outside data."
unfoldable pub write_data_of : ℕ → List ℕ → ℕ → Written
write_data_of n m address =
    cond (memory_shaped (length m) n)
    (cond (in_data n (length m) address) (Ok tt) (Err Refusal.NotData))
    (Err Refusal.Shape)

unfoldable pub write_data_memory : ℕ → List ℕ → ℕ → ℕ → List ℕ
write_data_memory n m address word = cond (memory_shaped (length m) n && in_data n (length m) address) (set m address word) m

-- the contract of `write_data`: its answer r with its number, and the memory m' that it leaves
pub record WritesData (n : ℕ) (m : List ℕ) (address word : ℕ) (r : Written) (m' : List ℕ) : Type 0 where
  pub answer : r ≡ write_data_of n m address
  pub memory : m' ≡ write_data_memory n m address word
  pub number :
      written_number r
      ≡ first_reason 0 (reason 6 (not (memory_shaped (length m) n)) ∷ reason 16 (not (in_data n (length m) address)) ∷ [])

abbrev pub writable : ℕ → Bool
writable register = leb 3 register && leb register 31

-- "a state handed over with a depth above 128 is refused under 6" (document 02, K8), here too, where there is no memory; then 17: "A bus
-- write names a register outside r3 to r31."
unfoldable pub write_register_of : State → ℕ → ℕ → RegisterWritten
write_register_of s register word =
    cond (depth_fits s.depth)
    (cond (writable register)
    (record { state = state_of (set s.regs register word) s.pc s.depth s.stack; answer = Ok tt })
    (record { state = s; answer = Err Refusal.NotRegister }))
    (record { state = s; answer = Err Refusal.Shape })

-- the contract of `write_register`: its answer r with its number
pub record WritesRegister (s : State) (register word : ℕ) (r : RegisterWritten) : Type 0 where
  pub answer : r ≡ write_register_of s register word
  pub number :
      written_number r.answer
      ≡ first_reason 0 (reason 6 (not (depth_fits s.depth)) ∷ reason 17 (not (writable register)) ∷ [])
