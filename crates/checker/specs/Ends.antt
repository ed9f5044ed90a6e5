-- The two ends of a claim's edges, counted.
use Rattle.std.specs.Prelude.{ℕ, Bool, List}
use Rattle.lists.specs.Search.{count}
use Rattle.isa.specs.Instructions.{instr_at, is_jump}
use Rattle.graph.specs.Claim.{is_destination}
use Rattle.checker.specs.declared.Ends.{Ends}

abbrev pub is_jump_at : List ℕ → ℕ → Bool
is_jump_at memory a = is_jump (instr_at memory a)

-- how many of the n words of code are a jmp, and how many addresses are a target of one
abbrev pub ends_of : List ℕ → ℕ → List ℕ → Ends
ends_of memory n edges = record { jumps = count (is_jump_at memory) n; destinations = count (is_destination edges) n }
