-- Being inside a guard, and the invariant: of every guard that the pc is inside of, r0, r1 and r2 are what falling through its words
-- up to the pc leaves.
use Prim.Native.Nat.{ℕ, ◌+◌, ◌-◌, ◌≤◌, ◌<◌}
use mathlib.Core.Path.{◌≡◌, sym, ap, ◌∙◌}
use mathlib.Core.Bool.{true}
use mathlib.Core.List.{List}
use native.Mathlib.Omega.{arith}
use lib.ListN.{length, take, get_or}
use Rattle.isa.specs.declared.Kind.{Kind}
use Rattle.isa.specs.declared.Instr.{Instr}
use Rattle.isa.specs.declared.Technique.{Technique}
use Rattle.isa.specs.Instructions.{instr_at, is_kind, is_call}
use Rattle.machine.specs.Steps.{stack_places}
use Rattle.graph.specs.Claim.{is_return}
use Rattle.graph.proofs.Returns.{after_call}
use Rattle.guards.specs.declared.Slot.{Slot}
use Rattle.guards.specs.Sequences.{jump_guard, store_guard}
use Rattle.checker.specs.Conditions.{IsId, EndsWith}
use Rattle.integrity.specs.Calls.{Config}
use Rattle.guards.proofs.Replay.{view, Fallen}
use Rattle.guards.proofs.Known.{lacks, jump_lacks, store_lacks, word_lacks}

-- a guard sequence of the technique, for the jmp or st at an address
pub data Guard (t : Technique) (memory : List ℕ) (n : ℕ) (edges : List ℕ) : ℕ → List Slot → Type 0 where
  of_jump : (a id : ℕ) → IsId edges a id → Guard t memory n edges a (jump_guard t n id)
  of_store : (a : ℕ) → t ≡ Technique.MemoryGuards → Guard t memory n edges a (store_guard n (length memory))

-- p is a word of a guard that stands in code, its last counted, but not its first
pub record Inside (t : Technique) (memory : List ℕ) (n : ℕ) (edges : List ℕ) (p : ℕ) : Type 0 where
  pub last : ℕ
  pub in_code : last < n
  pub slots : List Slot
  pub guard : Guard t memory n edges last slots
  pub ends : EndsWith memory slots last
  pub offset : ℕ
  pub past : 1 ≤ offset
  pub within : offset < length slots
  pub here : p ≡ ends.first + offset

-- every return address on a stack of this depth is the word after a call of the code
pub record Stacked (memory : List ℕ) (n : ℕ) (stack : List ℕ) (depth : ℕ) : Type 0 where
  pub size : length stack ≡ stack_places
  pub limit : depth ≤ stack_places
  pub homes : (k : ℕ) → k < depth → is_return memory n (get_or stack k 0) ≡ true

-- the invariant
pub record Inv (t : Technique) (memory : List ℕ) (n : ℕ) (edges : List ℕ) (c : Config) : Type 0 where
  pub code_same : take n c.memory ≡ take n memory
  pub size_same : length c.memory ≡ length memory
  pub registers : length c.state.regs ≡ 32
  pub in_code : c.state.pc < n
  pub stacked : Stacked memory n c.state.stack c.state.depth
  pub fallen : (p : Inside t memory n edges c.state.pc) → Fallen memory n p.ends.first p.offset (view c.state.regs)

guard_lacks : {t : Technique} {memory : List ℕ} {n : ℕ} {edges : List ℕ} {a : ℕ} {slots : List Slot} → Guard t memory n edges a slots
    → (lacks Kind.Label slots ≡ true) × (lacks Kind.Call slots ≡ true)
guard_lacks {t} {memory} {n} (of_jump a id d) = jump_lacks t n id
guard_lacks {t} {memory} {n} (of_store a e) = store_lacks n (length memory)

pub inside_no_label : (t : Technique) (memory : List ℕ) (n : ℕ) (edges : List ℕ) (p w : ℕ) → Inside t memory n edges p
    → instr_at memory p ≡ Instr.Label w → ⊥
inside_no_label t memory n edges p w i e =
    word_lacks Kind.Label memory i.ends.first i.slots i.ends.stands (guard_lacks i.guard).0 i.offset i.within
    (ap (λ (a : ℕ). is_kind Kind.Label (instr_at memory a)) (sym i.here) ∙ ap (is_kind Kind.Label) e)

-- the word before an inner word is a word of the guard too, and so no call
pub inside_no_return : (t : Technique) (memory : List ℕ) (n : ℕ) (edges : List ℕ) (p : ℕ) → Inside t memory n edges p
    → is_return memory n p ≡ true → ⊥
inside_no_return t memory n edges p i e =
    let r = after_call memory n p e in
    let here : i.ends.first + (i.offset - 1) ≡ r.call = omega (arith, i.here, i.past, r.next) in
    word_lacks Kind.Call memory i.ends.first i.slots i.ends.stands (guard_lacks i.guard).1 (i.offset - 1) (omega (arith, i.within, i.past))
    (ap (λ (a : ℕ). is_call (instr_at memory a)) here ∙ r.calls)
