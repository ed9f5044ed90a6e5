-- What is proved of guards put in for the installer (document 02, K7). `proofs/Theorems.antt` has the proofs.
use Rattle.std.specs.Prelude.{ℕ, suc, ◌+◌, ◌-◌, ◌*◌, ◌≤◌, ◌<◌, ◌≡◌, ◌⊎◌, true, false, ◌&&◌, List, [], ◌∷◌, ◌++◌, map, length, get_or, Some, Ok}
use Rattle.lists.specs.Search.{bit, count}
use Rattle.answers.specs.Shape.{edges_shaped}
use Rattle.isa.specs.declared.Instr.{Instr}
use Rattle.isa.specs.declared.Technique.{Technique}
use Rattle.isa.specs.Words.{encode_of, all_bits_set}
use Rattle.isa.specs.Instructions.{instr_at, is_jump, is_store, is_branch, branch_target}
use Rattle.graph.specs.Claim.{edge_count, jump_of, target_of, is_destination, id_of}
use Rattle.rising.specs.Rising.{Rising}
use Rattle.guards.specs.Sequences.{jump_guard, store_guard}
use Rattle.checker.specs.Verdicts.{verdict_of}
use Rattle.checker.specs.Conditions.{Listed, IsId, Graph}
use Rattle.guarded.specs.Rewrite.{guards_stores, body_size, map_of, new_length, filled, with_target, set_of, new_code, new_jump, new_edges, new_map}
use Rattle.guarded.specs.Rules.{bare_verdict_of}

-- what the numbers 6 to 10, 18 and 20 to 22 leave, over any technique. Where stores have a guard there must be data, as K13 asks; that no
-- word names r0, r1 or r2 is not needed for any of what follows.
pub record Rewritable (t : Technique) (bare : List ℕ) (n : ℕ) (edges : List ℕ) (D : ℕ) : Type 0 where
  pub edges_shaped : edges_shaped (length edges) ≡ true
  pub data_limit : D ≤ 2048
  pub graph : Graph t bare n edges
  pub edges_rise : Rising edges
  pub no_label : (a w : ℕ) → a < n → instr_at bare a ≡ Instr.Label w → ⊥
  pub data_for_stores : (a : ℕ) → a < n → (guards_stores t && is_store (instr_at bare a)) ≡ true → 1 ≤ D
  pub branches_within : (a w : ℕ) → a < n → branch_target (instr_at bare a) ≡ Some w → w < n
  pub length_limit : new_length t bare n edges ≤ 2048

-- these words are in memory from `at` on
abbrev pub Stand : List ℕ → ℕ → List ℕ → Type 0
Stand memory at words = (k : ℕ) → k < length words → get_or memory (at + k) 0 ≡ get_or words k 0

-- n bare words with their edges, and the data words that stand after the new code
module _ (t : Technique) (bare : List ℕ) (n : ℕ) (edges values : List ℕ) where
  abbrev pub new_memory : List ℕ
  new_memory = new_code t bare n edges (length values) ++ values

  -- where the words that stand for the word at a begin: behind the label, where it has one
  abbrev pub body_start : ℕ → ℕ
  body_start a = map_of t bare edges a + bit (is_destination edges a)

  -- what stands in the block of address a
  pub record Block (a : ℕ) : Type 0 where
    -- "A destination gets a label in front, and its map entry is the label": that of the new ID of its set
    pub label : is_destination edges a ≡ true
        → Stand new_memory (map_of t bare edges a) (encode_of (Instr.Label (map_of t bare edges (set_of edges n a))) ∷ [])
    -- a jmp has become its guard, with rs in its addi; the new jmp is the last of its words
    pub jump : (rs : ℕ) → instr_at bare a ≡ Instr.Jmp rs
        → Stand new_memory (body_start a)
        (map encode_of (filled (jump_guard t (new_length t bare n edges) (map_of t bare edges (id_of edges n a))) rs 0 0))
    pub jump_last : (rs : ℕ) → instr_at bare a ≡ Instr.Jmp rs → body_start a + length (jump_guard t 0 0) ≡ new_jump t bare edges a + 1
    -- so has a st, where the technique guards it
    pub store : (rd rs w : ℕ) → guards_stores t ≡ true → instr_at bare a ≡ Instr.St rd rs w
        → Stand new_memory (body_start a) (map encode_of (filled (store_guard (new_length t bare n edges) (length new_memory)) rd w rs))
    -- "Branch targets .. follow the map"
    pub branch : (w : ℕ) → branch_target (instr_at bare a) ≡ Some w
        → Stand new_memory (body_start a) (encode_of (with_target (instr_at bare a) (map_of t bare edges w)) ∷ [])
    -- "Other words keep their value"
    pub other : is_jump (instr_at bare a) ≡ false → (guards_stores t && is_store (instr_at bare a)) ≡ false → is_branch (instr_at bare a) ≡ false
        → Stand new_memory (body_start a) (get_or bare a 0 ∷ [])
    -- the next block begins where this one ends
    pub next : map_of t bare edges (suc a) ≡ body_start a + body_size t (instr_at bare a)

  -- what comes out of bare code that is not turned away
  pub record Rewriting : Type 0 where
    -- 1. "What comes out is always accepted."
    pub accepted : verdict_of t new_memory (new_length t bare n edges) (new_edges t bare edges) ≡ Ok tt
    pub code_length : length (new_code t bare n edges (length values)) ≡ new_length t bare n edges
    -- 4. the map has an entry for each bare address, and rises; so do the places of the words: they keep their sequence
    pub map_length : length (new_map t bare n edges) ≡ n
    pub map_entry : (a : ℕ) → a < n → get_or (new_map t bare n edges) a 0 ≡ map_of t bare edges a
    pub map_rises : (a b : ℕ) → a < b → map_of t bare edges a < map_of t bare edges b
    pub words_rise : (a b : ℕ) → a < b → body_start a < body_start b
    -- what stands at the entry of each address and behind it; and nothing else stands in the code, but for the illegal word
    pub block : (a : ℕ) → a < n → Block a
    pub all_blocks : (p : ℕ) → p + 1 < new_length t bare n edges
        → (a : ℕ) × (a < n) × (map_of t bare edges a ≤ p) × (p < map_of t bare edges (suc a))
    pub last_illegal : get_or new_memory (new_length t bare n edges - 1) 0 ≡ all_bits_set
    -- 5. the claim follows, edge by edge in its sequence: each new edge is the image of the old one, "except that an edge starts at the new
    -- jmp itself"
    pub claim_length : length (new_edges t bare edges) ≡ length edges
    pub edge_from : (k : ℕ) → k < edge_count edges → jump_of (new_edges t bare edges) k ≡ new_jump t bare edges (jump_of edges k)
    pub edge_to : (k : ℕ) → k < edge_count edges → target_of (new_edges t bare edges) k ≡ map_of t bare edges (target_of edges k)
    -- both ways, as a relation
    pub edge_moved : (j x : ℕ) → Listed edges j x → Listed (new_edges t bare edges) (new_jump t bare edges j) (map_of t bare edges x)
    pub edge_back : (J X : ℕ) → Listed (new_edges t bare edges) J X
        → (j : ℕ) × ((x : ℕ) × (Listed edges j x × (J ≡ new_jump t bare edges j) × (X ≡ map_of t bare edges x)))
    -- and the new ID of a set is the map of the old one
    pub id_moved : (j id : ℕ) → IsId edges j id → IsId (new_edges t bare edges) (new_jump t bare edges j) (map_of t bare edges id)

-- `more` lists what `edges` lists, and one edge besides
pub record OneMore (edges more : List ℕ) : Type 0 where
  pub jump : ℕ
  pub target : ℕ
  pub kept : (j a : ℕ) → Listed edges j a → Listed more j a
  pub added : (j a : ℕ) → Listed more j a → Listed edges j a ⊎ ((j ≡ jump) × (a ≡ target))

abbrev pub jumps_in : List ℕ → ℕ → ℕ
jumps_in bare n = count (λ a. is_jump (instr_at bare a)) n

abbrev pub stores_in : List ℕ → ℕ → ℕ
stores_in bare n = count (λ a. is_store (instr_at bare a)) n

abbrev pub destinations_in : List ℕ → ℕ → ℕ
destinations_in edges n = count (is_destination edges) n

pub record GuardsPutIn : Type 0 where
  -- what is not turned away, plain, can be rewritten, whatever data words come to stand after the new code
  pub passed : (memory : List ℕ) (n : ℕ) (edges : List ℕ) (D : ℕ) → bare_verdict_of Technique.Plain memory n edges ≡ Ok tt → D ≤ 2048
      → Rewritable Technique.Plain memory n edges D
  -- and so all of this holds of it, "argued one time over the list of guards"
  pub rewriting : (t : Technique) (bare : List ℕ) (n : ℕ) (edges values : List ℕ) → Rewritable t bare n edges (length values)
      → Rewriting t bare n edges values
  -- 2. "Its length is the old one plus five per jump, one per destination and one."
  pub plain_length : (bare : List ℕ) (n : ℕ) (edges : List ℕ)
      → new_length Technique.Plain bare n edges ≡ n + 5 * jumps_in bare n + destinations_in edges n + 1
  -- with memory guards "nine words more per jump, five per store, one per destination and one at the end"
  pub guarded_length : (bare : List ℕ) (n : ℕ) (edges : List ℕ)
      → new_length Technique.MemoryGuards bare n edges ≡ n + 9 * jumps_in bare n + 5 * stores_in bare n + destinations_in edges n + 1
  -- 3. "Where two claims over the same bare code differ by one edge .., the lengths differ by at most one": where one has an edge more,
  pub one_more : (t : Technique) (bare : List ℕ) (n : ℕ) (edges more : List ℕ) → OneMore edges more
      → (new_length t bare n edges ≤ new_length t bare n more) × (new_length t bare n more ≤ new_length t bare n edges + 1)
  -- and where one has an edge in place of another
  pub one_changed : (t : Technique) (bare : List ℕ) (n : ℕ) (common edges other : List ℕ) → OneMore common edges → OneMore common other
      → new_length t bare n edges ≤ new_length t bare n other + 1
