-- Which addresses break the rules about guards and branches: a test for each address, true where it is faulty.
use Rattle.std.specs.Prelude.{ℕ, ◌+◌, Bool, false, not, ◌&&◌, ◌||◌, List, length, ltb, leb, Option, None, Some}
use Rattle.lists.specs.Search.{any}
use Rattle.isa.specs.declared.Technique.{Technique}
use Rattle.isa.specs.Instructions.{instr_at, is_jump, is_store, branch_target}
use Rattle.graph.specs.Claim.{id_of}
use Rattle.guards.specs.declared.Slot.{Slot}
use Rattle.guards.specs.Sequences.{jump_guard, store_guard, ends_at}

-- 13. "With memory guards, this st lacks its form or sequence, as every st does if D is 0."
abbrev pub store_unguarded : Technique → List ℕ → ℕ → ℕ → Bool
store_unguarded Technique.Plain memory n a = false
store_unguarded Technique.MemoryGuards memory n a =
    is_store (instr_at memory a) && not (ltb n (length memory) && ends_at memory (store_guard n (length memory)) a)

-- 14. "This jmp lacks its form or sequence."
abbrev pub jump_unguarded : Technique → List ℕ → ℕ → List ℕ → ℕ → Bool
jump_unguarded t memory n edges a = is_jump (instr_at memory a) && not (ends_at memory (jump_guard t n (id_of edges n a)) a)

-- w is a word of the sequence that ends at a, the jmp or st counted, but not its first
abbrev pub inside_ending : List ℕ → List Slot → ℕ → ℕ → Bool
inside_ending memory slots w a = ends_at memory slots a && (leb w a && ltb (a + 1) (w + length slots))

-- w is such a word of some jmp's sequence; of some st's
unfoldable pub inside_jump_guard : Technique → List ℕ → ℕ → List ℕ → ℕ → Bool
inside_jump_guard t memory n edges w = any (λ a. inside_ending memory (jump_guard t n (id_of edges n a)) w a) n

unfoldable pub inside_store_guard : List ℕ → ℕ → ℕ → Bool
inside_store_guard memory n w = any (λ a. inside_ending memory (store_guard n (length memory)) w a) n

-- w is a "word of such a sequence, its jmp counted, but the first"; with memory guards, a "word of either sequence, its jmp or st
-- counted, but the first"
abbrev pub inside_guard : Technique → List ℕ → ℕ → List ℕ → ℕ → Bool
inside_guard Technique.Plain memory n edges w = inside_jump_guard Technique.Plain memory n edges w
inside_guard Technique.MemoryGuards memory n edges w =
    inside_store_guard memory n w || inside_jump_guard Technique.MemoryGuards memory n edges w

-- "Targets of bgt and jd are in code", asked of plain code too since K2 (document 02): "Plain code must from now on keep those
-- targets in code, under 15, as with memory guards."; and none is such a word of a guard. "Targets of call obey 15" (K8).
abbrev pub target_wrong : Technique → List ℕ → ℕ → List ℕ → ℕ → Bool
target_wrong t memory n edges w = leb n w || inside_guard t memory n edges w

abbrev pub target_wrong_if_any : Technique → List ℕ → ℕ → List ℕ → Option ℕ → Bool
target_wrong_if_any t memory n edges None = false
target_wrong_if_any t memory n edges (Some w) = target_wrong t memory n edges w

-- 15. "This bgt or jd breaks the target condition.", or this call
abbrev pub branch_wrong : Technique → List ℕ → ℕ → List ℕ → ℕ → Bool
branch_wrong t memory n edges a = target_wrong_if_any t memory n edges (branch_target (instr_at memory a))
