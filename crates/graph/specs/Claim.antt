-- The claimed graph (document 01, "Claimed graph"; 000, section 3).
use Rattle.std.specs.Prelude.{ℕ, ◌+◌, ◌*◌, ◌/◌, Bool, false, ◌&&◌, ◌||◌, List, length, get_or, ltb, eqb}
use Rattle.lists.specs.Search.{lowest, any}
use Rattle.isa.specs.declared.Instr.{Instr}
use Rattle.isa.specs.Instructions.{instr_at, is_call}

-- "jump address and target, 16 bits each": the numbers of edge k, of a list of edge numbers
abbrev pub edge_count : List ℕ → ℕ
edge_count edges = length edges / 2

abbrev pub jump_of : List ℕ → ℕ → ℕ
jump_of edges k = get_or edges (2 * k) 0

abbrev pub target_of : List ℕ → ℕ → ℕ
target_of edges k = get_or edges (2 * k + 1) 0

-- the claim lists an edge from j to a
unfoldable pub is_edge : List ℕ → ℕ → ℕ → Bool
is_edge edges j a = any (λ k. eqb (jump_of edges k) j && eqb (target_of edges k) a) (edge_count edges)

-- the claim lists an edge from j
unfoldable pub has_edge : List ℕ → ℕ → Bool
has_edge edges j = any (λ k. eqb (jump_of edges k) j) (edge_count edges)

-- "A target of any jump is a destination."
unfoldable pub is_destination : List ℕ → ℕ → Bool
is_destination edges a = any (λ k. eqb (target_of edges k) a) (edge_count edges)

-- "The ID of a target set is its lowest address": that of jump j, or n where it has no target in code
unfoldable pub id_of : List ℕ → ℕ → ℕ → ℕ
id_of edges n j = lowest (is_edge edges j) n

-- q is the word after a call of the code
unfoldable pub is_return : List ℕ → ℕ → ℕ → Bool
is_return memory n q = any (λ a. is_call (instr_at memory a) && eqb q (a + 1)) n

-- "at a jmp, the two must be a listed edge"; "{pc+1}, {pc+1, w} for bgt, {w} for jd"; "call's successor is w, ret's are the words after
-- all calls" (document 02, K8); "none for illegal"
abbrev pub successor_by : List ℕ → ℕ → List ℕ → Instr → ℕ → ℕ → Bool
successor_by memory n edges (Instr.Label w) p q = eqb q (p + 1)
successor_by memory n edges (Instr.Add rd rs rt) p q = eqb q (p + 1)
successor_by memory n edges (Instr.Addi rd rs w) p q = eqb q (p + 1)
successor_by memory n edges (Instr.Movi rd w) p q = eqb q (p + 1)
successor_by memory n edges (Instr.Bgt rs rt w) p q = eqb q (p + 1) || eqb q w
successor_by memory n edges (Instr.Jd w) p q = eqb q w
successor_by memory n edges (Instr.Jmp rs) p q = is_edge edges p q
successor_by memory n edges (Instr.Ld rd rs w) p q = eqb q (p + 1)
successor_by memory n edges (Instr.St rd rs w) p q = eqb q (p + 1)
successor_by memory n edges (Instr.Call w) p q = eqb q w
successor_by memory n edges Instr.Ret p q = is_return memory n q
successor_by memory n edges Instr.Illegal p q = false

-- q is a successor of p, "each cut to code"; "An address outside code has none."
unfoldable pub is_successor : List ℕ → ℕ → List ℕ → ℕ → ℕ → Bool
is_successor memory n edges p q = ltb p n && (ltb q n && successor_by memory n edges (instr_at memory p) p q)
