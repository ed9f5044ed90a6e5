-- One step (document 01, "Steps"; 000, figures 1 and 3): first what it will do, or why it cannot; then that is carried out.
use Rattle.std.specs.Prelude.{◌≡◌, ℕ, ◌+◌, ◌-◌, ◌%◌, ◌^◌, Bool, true, false, cond, not, ◌&&◌, List, [], ◌∷◌, length, replicate, nat_le, nat_lt, slice_index, slice_set, Result, Ok, Err}
use Rattle.answers.specs.declared.Refusal.{Refusal}
use Rattle.answers.specs.Shape.{memory_shaped}
use Rattle.isa.specs.declared.Instr.{Instr}
use Rattle.isa.specs.declared.Technique.{Technique}
use Rattle.isa.specs.Instructions.{instr_at, is_illegal, is_call, is_ret}
use Rattle.addresses.specs.Addresses.{address_of}
use Rattle.machine.specs.declared.State.{State}
use Rattle.machine.specs.declared.Stop.{Stop}
use Rattle.machine.specs.declared.Halt.{Halt}
use Rattle.machine.specs.declared.Stepped.{Stepped}
use Rattle.machine.specs.declared.Effect.{Effect}
use Rattle.machine.specs.Numbers.{Outcome, Number, outcome_number, reason, first_reason}

-- Where the techniques differ. Stop 1: "pc is outside code (plain) or outside memory (relaxed)".
abbrev pub fetch_end : Technique → ℕ → ℕ → ℕ
fetch_end Technique.Plain n len = n
fetch_end Technique.MemoryGuards n len = len

-- Stop 3: "a store outside data (plain) or outside memory (relaxed)"
abbrev pub store_start : Technique → ℕ → ℕ
store_start Technique.Plain n = n
store_start Technique.MemoryGuards n = 0

-- Stop 4, "plain only: the next pc is outside code"
abbrev pub next_allowed : Technique → ℕ → ℕ → Bool
next_allowed Technique.Plain n next = nat_lt next n
next_allowed Technique.MemoryGuards n next = true

abbrev pub reg_of : State → ℕ → ℕ
reg_of s r = slice_index s.regs r

abbrev pub state_of : List ℕ → ℕ → ℕ → List ℕ → State
state_of regs pc depth stack = record { regs = regs; pc = pc; depth = depth; stack = stack }

-- "a stack of at most 128 return addresses"
abbrev pub stack_places : ℕ
stack_places = 128

-- "A fresh state has pc 0 and registers as the caller gives them"; the stack "starts empty" (document 02, K8)
abbrev pub fresh_of : List ℕ → State
fresh_of regs = state_of regs 0 0 (replicate stack_places 0)

-- "a state handed over with a depth above 128 is refused under 6": 6 turned round, of the depth, and of memory and depth
abbrev pub depth_fits : ℕ → Bool
depth_fits depth = nat_le depth stack_places

abbrev pub step_shaped : ℕ → ℕ → ℕ → Bool
step_shaped len n depth = memory_shaped len n && depth_fits depth

-- "Sums of add and addi are taken modulo two to the 64"
abbrev pub sum_of : ℕ → ℕ → ℕ
sum_of x y = (x + y) % 2 ^ 64

-- "bgt compares unsigned"
abbrev pub branch_of : ℕ → ℕ → ℕ → ℕ → ℕ
branch_of x y w next = cond (nat_lt y x) w next

-- "a load outside memory" is stop 3, and so is "one of two to the 64 or more" (document 02, K5), as no memory reaches so far: the
-- address is the exact sum (`address_of`)
unfoldable pub load_of : List ℕ → ℕ → ℕ → ℕ → Result Effect Stop
load_of m rd address next =
    cond (nat_lt address (length m)) (Ok (Effect.SetRegister rd (slice_index m address) next)) (Err Stop.Access)

abbrev pub storable : Technique → ℕ → List ℕ → ℕ → Bool
storable t n m address = nat_le (store_start t n) address && nat_lt address (length m)

unfoldable pub store_of : Technique → ℕ → List ℕ → ℕ → ℕ → ℕ → Result Effect Stop
store_of t n m address value next = cond (storable t n m address) (Ok (Effect.PutWord address value next)) (Err Stop.Access)

-- "call puts down pc+1 and goes to w", or is stop 5, "stack full"
unfoldable pub call_of : ℕ → ℕ → ℕ → Result Effect Stop
call_of depth back w = cond (nat_lt depth stack_places) (Ok (Effect.Push back w)) (Err Stop.Full)

-- "ret goes to the latest address put down", or is stop 6, "stack empty"
abbrev pub latest_of : ℕ → List ℕ → ℕ
latest_of depth stack = slice_index stack (depth - 1)

unfoldable pub return_of : ℕ → List ℕ → Result Effect Stop
return_of depth stack = cond (nat_lt 0 depth) (Ok (Effect.Pop (latest_of depth stack))) (Err Stop.Empty)

-- the figures, a line for each instruction
unfoldable pub effect_of : Technique → ℕ → List ℕ → State → Instr → Result Effect Stop
effect_of t n m s (Instr.Label w) = Ok (Effect.Go (s.pc + 1))
effect_of t n m s (Instr.Add rd rs rt) = Ok (Effect.SetRegister rd (sum_of (reg_of s rs) (reg_of s rt)) (s.pc + 1))
effect_of t n m s (Instr.Addi rd rs w) = Ok (Effect.SetRegister rd (sum_of (reg_of s rs) w) (s.pc + 1))
effect_of t n m s (Instr.Movi rd w) = Ok (Effect.SetRegister rd w (s.pc + 1))
effect_of t n m s (Instr.Bgt rs rt w) = Ok (Effect.Go (branch_of (reg_of s rs) (reg_of s rt) w (s.pc + 1)))
effect_of t n m s (Instr.Jd w) = Ok (Effect.Go w)
effect_of t n m s (Instr.Jmp rs) = Ok (Effect.Go (reg_of s rs))
effect_of t n m s (Instr.Ld rd rs w) = load_of m rd (address_of (reg_of s rs) w) (s.pc + 1)
effect_of t n m s (Instr.St rd rs w) = store_of t n m (address_of (reg_of s rd) w) (reg_of s rs) (s.pc + 1)
effect_of t n m s (Instr.Call w) = call_of s.depth (s.pc + 1) w
effect_of t n m s Instr.Ret = return_of s.depth s.stack
effect_of t n m s Instr.Illegal = Err Stop.Illegal

-- the pc that an effect goes on to
abbrev pub next_in : Effect → ℕ
next_in (Effect.Go next) = next
next_in (Effect.SetRegister rd value next) = next
next_in (Effect.PutWord address value next) = next
next_in (Effect.Push back next) = next
next_in (Effect.Pop next) = next

-- stop 4, tested last
unfoldable pub settle_of : Technique → ℕ → Result Effect Stop → Result Effect Stop
settle_of t n (Ok effect) = cond (next_allowed t n (next_in effect)) (Ok effect) (Err Stop.Next)
settle_of t n (Err stop) = Err stop

-- what a step does, stop 1 tested first
unfoldable pub intent_of : Technique → ℕ → List ℕ → State → Result Effect Stop
intent_of t n m s =
    cond (nat_lt s.pc (fetch_end t n (length m)))
    (settle_of t n (effect_of t n m s (instr_at m s.pc)))
    (Err Stop.Fetch)

abbrev pub stepped : State → Outcome → Stepped
stepped s outcome = record { state = s; outcome = outcome }

-- "A step that cannot be made leaves the state and memory unchanged and names the first reason that applies"; "Stack places not
-- written by a call keep their values"
unfoldable pub after_of : State → Result Effect Stop → Stepped
after_of s (Ok (Effect.Go next)) = stepped (state_of s.regs next s.depth s.stack) (Ok tt)
after_of s (Ok (Effect.SetRegister rd value next)) = stepped (state_of (slice_set s.regs rd value) next s.depth s.stack) (Ok tt)
after_of s (Ok (Effect.PutWord address value next)) = stepped (state_of s.regs next s.depth s.stack) (Ok tt)
after_of s (Ok (Effect.Push back next)) = stepped (state_of s.regs next (s.depth + 1) (slice_set s.stack s.depth back)) (Ok tt)
after_of s (Ok (Effect.Pop next)) = stepped (state_of s.regs next (s.depth - 1) s.stack) (Ok tt)
after_of s (Err stop) = stepped s (Err (Halt.Stopped stop))

unfoldable pub memory_after : List ℕ → Result Effect Stop → List ℕ
memory_after m (Ok (Effect.Go next)) = m
memory_after m (Ok (Effect.SetRegister rd value next)) = m
memory_after m (Ok (Effect.PutWord address value next)) = slice_set m address value
memory_after m (Ok (Effect.Push back next)) = m
memory_after m (Ok (Effect.Pop next)) = m
memory_after m (Err stop) = m

-- a call of `step`: 6, or the step
unfoldable pub step_of : Technique → ℕ → List ℕ → State → Stepped
step_of t n m s =
    cond (step_shaped (length m) n s.depth) (after_of s (intent_of t n m s)) (stepped s (Err (Halt.Refused Refusal.Shape)))

unfoldable pub step_memory : Technique → ℕ → List ℕ → State → List ℕ
step_memory t n m s = cond (step_shaped (length m) n s.depth) (memory_after m (intent_of t n m s)) m

-- The stops again, as document 01 lists them and K8 adds to them: a load or store that is outside, a call where the stack is full, a
-- ret where it is empty, the next pc, and the first reason that applies.
abbrev pub access_outside : Technique → ℕ → List ℕ → State → Instr → Bool
access_outside t n m s (Instr.Label w) = false
access_outside t n m s (Instr.Add rd rs rt) = false
access_outside t n m s (Instr.Addi rd rs w) = false
access_outside t n m s (Instr.Movi rd w) = false
access_outside t n m s (Instr.Bgt rs rt w) = false
access_outside t n m s (Instr.Jd w) = false
access_outside t n m s (Instr.Jmp rs) = false
access_outside t n m s (Instr.Ld rd rs w) = not (nat_lt (address_of (reg_of s rs) w) (length m))
access_outside t n m s (Instr.St rd rs w) = not (storable t n m (address_of (reg_of s rd) w))
access_outside t n m s (Instr.Call w) = false
access_outside t n m s Instr.Ret = false
access_outside t n m s Instr.Illegal = false

abbrev pub stack_full : State → Instr → Bool
stack_full s i = is_call i && not (nat_lt s.depth stack_places)

abbrev pub stack_empty : State → Instr → Bool
stack_empty s i = is_ret i && not (nat_lt 0 s.depth)

abbrev pub next_of : State → Instr → ℕ
next_of s (Instr.Label w) = s.pc + 1
next_of s (Instr.Add rd rs rt) = s.pc + 1
next_of s (Instr.Addi rd rs w) = s.pc + 1
next_of s (Instr.Movi rd w) = s.pc + 1
next_of s (Instr.Bgt rs rt w) = branch_of (reg_of s rs) (reg_of s rt) w (s.pc + 1)
next_of s (Instr.Jd w) = w
next_of s (Instr.Jmp rs) = reg_of s rs
next_of s (Instr.Ld rd rs w) = s.pc + 1
next_of s (Instr.St rd rs w) = s.pc + 1
next_of s (Instr.Call w) = w
next_of s Instr.Ret = latest_of s.depth s.stack
next_of s Instr.Illegal = s.pc

-- "Stop 5, stack full, and stop 6, stack empty, come after stop 2 and before 4": no word meets more than one of 3, 5 and 6
abbrev pub step_number : Technique → ℕ → List ℕ → State → Number
step_number t n m s =
    first_reason Number.None
    (reason (Number.Refused 6) (not (step_shaped (length m) n s.depth))
    ∷ reason (Number.Stopped 1) (not (nat_lt s.pc (fetch_end t n (length m))))
    ∷ reason (Number.Stopped 2) (is_illegal (instr_at m s.pc))
    ∷ reason (Number.Stopped 3) (access_outside t n m s (instr_at m s.pc))
    ∷ reason (Number.Stopped 5) (stack_full s (instr_at m s.pc))
    ∷ reason (Number.Stopped 6) (stack_empty s (instr_at m s.pc))
    ∷ reason (Number.Stopped 4) (not (next_allowed t n (next_of s (instr_at m s.pc))))
    ∷ [])

-- the contract of `step`: its answer r with its number, and the memory m' that it leaves
pub record Steps (t : Technique) (n : ℕ) (m : List ℕ) (s : State) (r : Stepped) (m' : List ℕ) : Type 0 where
  pub answer : r ≡ step_of t n m s
  pub memory : m' ≡ step_memory t n m s
  pub number : outcome_number r.outcome ≡ step_number t n m s
