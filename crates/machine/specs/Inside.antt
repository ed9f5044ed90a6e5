-- What the private functions promise each other: a step and a run over registers, a stack and a place in the code that stand apart.
use Rattle.std.specs.Prelude.{◌≡◌, ℕ, ◌+◌, ◌-◌, ◌<◌, List, length, slice_set, Result, Ok, Err}
use Rattle.isa.specs.declared.Technique.{Technique}
use Rattle.machine.specs.declared.At.{At}
use Rattle.machine.specs.declared.Effect.{Effect}
use Rattle.machine.specs.declared.Stop.{Stop}
use Rattle.machine.specs.declared.State.{State}
use Rattle.machine.specs.declared.Ended.{Ended}
use Rattle.machine.specs.Steps.{stack_places, state_of, next_in, memory_after}
use Rattle.machine.specs.Runs.{ran, run_of, run_memory}

abbrev pub at_of : ℕ → ℕ → At
at_of pc depth = record { pc = pc; depth = depth }

-- the state of what stands apart
abbrev pub state_at : List ℕ → At → List ℕ → State
state_at regs at stack = state_of regs at.pc at.depth stack

-- the effect writes registers, memory and stack where they are, at this depth
abbrev pub InRange : ℕ → ℕ → Effect → Type 0
InRange len depth (Effect.Go next) = Unit {0}
InRange len depth (Effect.SetRegister rd value next) = rd < 32
InRange len depth (Effect.PutWord address value next) = address < len
InRange len depth (Effect.Push back next) = depth < stack_places
InRange len depth (Effect.Pop next) = 0 < depth

abbrev pub depth_after : ℕ → Effect → ℕ
depth_after depth (Effect.Go next) = depth
depth_after depth (Effect.SetRegister rd value next) = depth
depth_after depth (Effect.PutWord address value next) = depth
depth_after depth (Effect.Push back next) = depth + 1
depth_after depth (Effect.Pop next) = depth - 1

unfoldable pub moved_of : ℕ → Result Effect Stop → Result At Stop
moved_of depth (Ok effect) = Ok (at_of (next_in effect) (depth_after depth effect))
moved_of depth (Err stop) = Err stop

unfoldable pub registers_after : List ℕ → Result Effect Stop → List ℕ
registers_after regs (Ok (Effect.Go next)) = regs
registers_after regs (Ok (Effect.SetRegister rd value next)) = slice_set regs rd value
registers_after regs (Ok (Effect.PutWord address value next)) = regs
registers_after regs (Ok (Effect.Push back next)) = regs
registers_after regs (Ok (Effect.Pop next)) = regs
registers_after regs (Err stop) = regs

unfoldable pub stack_after : List ℕ → ℕ → Result Effect Stop → List ℕ
stack_after stack depth (Ok (Effect.Go next)) = stack
stack_after stack depth (Ok (Effect.SetRegister rd value next)) = stack
stack_after stack depth (Ok (Effect.PutWord address value next)) = stack
stack_after stack depth (Ok (Effect.Push back next)) = slice_set stack depth back
stack_after stack depth (Ok (Effect.Pop next)) = stack
stack_after stack depth (Err stop) = stack

-- what is about to be done, carried out on lent registers, memory and stack: the answer, and what they hold at exit
pub record Carried (e : Result Effect Stop) (depth : ℕ) (regs m stack : List ℕ) (r : Result At Stop) (regs' m' stack' : List ℕ) : Type 0 where
  pub answer : r ≡ moved_of depth e
  pub registers : regs' ≡ registers_after regs e
  pub memory : m' ≡ memory_after m e
  pub stacked : stack' ≡ stack_after stack depth e

-- a run over lent registers and a lent stack: with what they hold at exit it answers as `run` does, and leaves that memory
pub record RanOver (t : Technique) (n limit : ℕ) (s : State) (m : List ℕ) (at' : At) (r : Ended) (regs' m' stack' : List ℕ) : Type 0 where
  pub answer : ran (state_at regs' at' stack') r.ending r.count ≡ run_of t n limit m s
  pub memory : m' ≡ run_memory t n limit m s
  pub size : length regs' ≡ 32
  pub stack_size : length stack' ≡ stack_places
