-- What the private functions promise each other: a register written among lent words.
use Rattle.std.specs.Prelude.{ℕ, ◌≡◌, cond, List, set, Ok, Err}
use Rattle.answers.specs.declared.Refusal.{Refusal}
use Rattle.bus.specs.Numbers.{Written}
use Rattle.machine.specs.Steps.{depth_fits}
use Rattle.bus.specs.Bus.{writable}

-- a word put into a register of lent ones, of a state of this depth: the answer, and what they hold at exit
pub record PutsRegister (depth : ℕ) (regs : List ℕ) (register word : ℕ) (r : Written) (regs' : List ℕ) : Type 0 where
  pub answer : r ≡ cond (depth_fits depth) (cond (writable register) (Ok tt) (Err Refusal.NotRegister)) (Err Refusal.Shape)
  pub registers : regs' ≡ cond (depth_fits depth) (cond (writable register) (set regs register word) regs) regs
