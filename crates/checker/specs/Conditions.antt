-- The published conditions, in the order and the words of 000: the claimed graph is a CFG for the code (section 3), and the
-- code and its graph satisfy I (4.1) or, with memory guards, I_s (5.1), as document 01 makes them finite. Two clauses are added by
-- document 02: K2's `targets_in_code`, of plain code, and K3's `edges_rise`.
use Rattle.std.specs.Prelude.{ℕ, ◌+◌, ◌-◌, ◌≤◌, ◌<◌, ◌≡◌, true, List, length, Some}
use Rattle.answers.specs.Shape.{call_shaped}
use Rattle.isa.specs.declared.Instr.{Instr}
use Rattle.isa.specs.declared.Technique.{Technique}
use Rattle.isa.specs.Instructions.{instr_at, branch_target}
use Rattle.graph.specs.Claim.{edge_count, jump_of, target_of}
use Rattle.rising.specs.Rising.{Rising}
use Rattle.guards.specs.declared.Slot.{Slot}
use Rattle.guards.specs.Sequences.{jump_guard, store_guard, stands_at}

-- the claim lists an edge from j to a: a is in succ(j)
pub record Listed (edges : List ℕ) (j a : ℕ) : Type 0 where
  pub place : ℕ
  pub within : place < edge_count edges
  pub jump : jump_of edges place ≡ j
  pub target : target_of edges place ≡ a

-- dst(j) is id: "The ID of a target set is its lowest address."
pub record IsId (edges : List ℕ) (j id : ℕ) : Type 0 where
  pub member : Listed edges j id
  pub lowest_one : (a : ℕ) → Listed edges j a → id ≤ a

-- a word at a is the last of the sequence, and the others precede it
pub record EndsWith (memory : List ℕ) (slots : List Slot) (a : ℕ) : Type 0 where
  pub first : ℕ
  pub last : first + length slots ≡ a + 1
  pub stands : stands_at memory first slots ≡ true

-- w is a word of the sequence that ends at a, its last counted, but not its first
pub record InnerWord (memory : List ℕ) (slots : List Slot) (a w : ℕ) : Type 0 where
  pub ends : EndsWith memory slots a
  pub after_first : ends.first < w
  pub up_to_last : w ≤ a

module _ (t : Technique) (memory : List ℕ) (n : ℕ) (edges : List ℕ) where
  -- section 3: "the graph in question is a CFG for M_c". Properties 1 to 3 and 5 hold by the definition of successors.
  pub record Graph : Type 0 where
    pub edges_start_at_jumps : (j a : ℕ) → Listed edges j a → (j < n) × ((rs : ℕ) × (instr_at memory j ≡ Instr.Jmp rs))
    pub edges_end_in_code : (j a : ℕ) → Listed edges j a → a < n
    -- 4. "If Dc(M_c(w0)) = jmp rs then succ(w0) is not empty."
    pub jumps_have_successors : (j rs : ℕ) → j < n → instr_at memory j ≡ Instr.Jmp rs → (a : ℕ) × Listed edges j a
    -- 6, between computed jumps: their target sets "are equal or have nothing in common"
    pub sets_equal_or_apart : (i j a : ℕ) → Listed edges i a → Listed edges j a → (b : ℕ) → Listed edges i b → Listed edges j b

  -- "If w0 holds a st instruction, then this instruction is st r0(0), rs and it is preceded by a specific sequence", which is
  -- impossible without data: asked with memory guards only
  abbrev pub StoresGuarded : Technique → Type 0
  StoresGuarded Technique.Plain = Unit {0}
  StoresGuarded Technique.MemoryGuards =
      (a rd rs w : ℕ) → a < n → instr_at memory a ≡ Instr.St rd rs w
      → (n < length memory) × EndsWith memory (store_guard n (length memory)) a

  -- w is no inner word of a store's sequence: asked with memory guards only
  abbrev pub OutsideStoreGuards : Technique → ℕ → Type 0
  OutsideStoreGuards Technique.Plain w = Unit {0}
  OutsideStoreGuards Technique.MemoryGuards w = (a : ℕ) → a < n → InnerWord memory (store_guard n (length memory)) a w → ⊥

  -- 4.1, conditions 1 to 4; 5.1, conditions 1 to 5
  pub record Instrumented : Type 0 where
    -- 1. "the instruction at n - 1 is illegal"
    pub last_illegal : instr_at memory (n - 1) ≡ Instr.Illegal
    -- 2. "If w0 is a destination, then the instruction at w0 is label w, where w is w0's ID. Conversely, if w0 holds a label
    -- instruction, then w0 is a destination."
    pub destinations_labelled : (j a id : ℕ) → Listed edges j a → IsId edges j id → instr_at memory a ≡ Instr.Label id
    pub labels_at_destinations : (a w : ℕ) → a < n → instr_at memory a ≡ Instr.Label w → (j : ℕ) × Listed edges j a
    -- 5.1, condition 3
    pub stores_guarded : StoresGuarded t
    -- 4.1, condition 3; 5.1, condition 4: "this instruction is jmp r0 and it is preceded by a specific sequence"
    pub jumps_guarded : (a rs id : ℕ) → a < n → instr_at memory a ≡ Instr.Jmp rs → IsId edges a id
        → EndsWith memory (jump_guard t n id) a
    -- 5.1, condition 5: "the target address w is in code memory". Of plain code 4.1 does not ask this: there it is the clause that
    -- K2 adds, "Plain code must from now on keep those targets in code". The paper has bgt and jd; "Targets of call obey 15" (K8).
    pub targets_in_code : (a w : ℕ) → a < n → branch_target (instr_at memory a) ≡ Some w → w < n
    -- 4.1, condition 4; 5.1, condition 5
    pub targets_outside_guards : (a w : ℕ) → a < n → branch_target (instr_at memory a) ≡ Some w
        → ((j id : ℕ) → j < n → IsId edges j id → InnerWord memory (jump_guard t n id) j w → ⊥) × OutsideStoreGuards t w

  -- what a call on memory and graph must be given (number 6), the published conditions, and how the graph must be listed
  pub record Conditions : Type 0 where
    pub shape : call_shaped (length memory) n (length edges) ≡ true
    pub graph : Graph
    -- The paper's graph is a relation, without a sequence. This is the clause that K3 adds: "Edges must rise by jump address, then by
    -- target, without repeats."
    pub edges_rise : Rising edges
    pub instrumented : Instrumented
