-- What only the private functions of this crate promise each other: what the tests before them leave, and what stands in the arrays.
use Rattle.std.specs.Prelude.{ℕ, suc, ◌-◌, ◌*◌, ◌/◌, ◌<◌, ◌≤◌, ◌≡◌, true, false, List, length, get_or, drop}
use Rattle.isa.specs.declared.Instr.{Instr}
use Rattle.isa.specs.declared.Technique.{Technique}
use Rattle.isa.specs.Words.{encode_of}
use Rattle.isa.specs.Instructions.{instr_at, is_jump}
use Rattle.rising.specs.Rising.{not_rising}
use Rattle.graph.specs.Claim.{edge_count, target_of, is_edge, is_destination, id_of}
use Rattle.graph.specs.Rules.{starts_at_no_jump, lacks_edge}
use Rattle.graph.specs.Passes.{Sized, Within, Owned}
use Rattle.std.proofs.lemmas.List.Edits.{sets}
use Rattle.guarded.specs.Blocks.{laid}
use Rattle.guarded.specs.Rewrite.{body_size, map_of, new_length, set_of, body_at, block_at, new_code, new_edge, new_edges, new_map}
use Rattle.guarded.specs.Rules.{branches_out}

-- the first a blocks are put over what was there before
pub record Putting (block : ℕ → List ℕ) (before out : List ℕ) (a : ℕ) : Type 0 where
  pub long : length out ≡ length before
  pub left : out ≡ sets before 0 (laid block a)

-- two jumps that share a target have one ID, as rule 10 asks
abbrev pub OneId : List ℕ → ℕ → Type 0
OneId edges n = (i j a : ℕ) → is_edge edges i a ≡ true → is_edge edges j a ≡ true → id_of edges n i ≡ id_of edges n j

module _ (memory : List ℕ) (n : ℕ) (edges : List ℕ) where
  abbrev pub map_plain : ℕ → ℕ
  map_plain = map_of Technique.Plain memory edges

  abbrev pub length_plain : ℕ
  length_plain = new_length Technique.Plain memory n edges

  abbrev pub body_plain : ℕ → List ℕ
  body_plain = body_at Technique.Plain memory n edges (length memory - n)

  abbrev pub block_plain : ℕ → List ℕ
  block_plain = block_at Technique.Plain memory n edges (length memory - n)

  abbrev pub code_plain : List ℕ
  code_plain = new_code Technique.Plain memory n edges (length memory - n)

  abbrev pub edges_plain : List ℕ
  edges_plain = new_edges Technique.Plain memory edges

  abbrev pub entries_plain : List ℕ
  entries_plain = new_map Technique.Plain memory n edges

  -- the new edges were put up to edge k, and now are up to `end`
  abbrev pub EdgesPut : ℕ → ℕ → List ℕ → List ℕ → Type 0
  EdgesPut k end new old =
      (before : List ℕ) → Putting (new_edge Technique.Plain memory edges) before old k → Putting (new_edge Technique.Plain memory edges) before new end

  -- where what stands for the word at a begins
  abbrev pub body_from : ℕ → ℕ
  body_from a = map_plain (suc a) - body_size Technique.Plain (instr_at memory a)

  -- each destination has its label in `code`
  abbrev pub LabelsStand : List ℕ → Type 0
  LabelsStand code =
      (a : ℕ) → a < n → is_destination edges a ≡ true → get_or code (map_plain a) 0 ≡ encode_of (Instr.Label (map_plain (set_of edges n a)))

  -- an array with where each block begins
  pub record Mapped (entries : List ℕ) : Type 0 where
    pub long : n ≤ length entries
    pub each : (a : ℕ) → a < n → get_or entries a 0 ≡ map_plain a

  -- if a jmp is at a, its first edge is k, which goes to the lowest target
  abbrev pub StartsAt : ℕ → ℕ → Type 0
  StartsAt a k = is_jump (instr_at memory a) ≡ true → (k < edge_count edges) × (target_of edges k ≡ id_of edges n a)

  -- bare code that no number up to 22 turns away, as far as the writing needs it, and the length of what comes out
  pub record Bare (total : ℕ) : Type 0 where
    pub sized : Sized memory n
    pub even : length edges ≡ 2 * (length edges / 2)
    pub within : Within edges n
    pub from_jumps : (k : ℕ) → k < edge_count edges → starts_at_no_jump memory n edges k ≡ false
    pub rising : (k : ℕ) → k < edge_count edges → not_rising edges k ≡ false
    pub leaving : (a : ℕ) → a < n → lacks_edge memory edges a ≡ false
    pub one_id : OneId edges n
    pub branches : (a : ℕ) → a < n → branches_out memory n a ≡ false
    pub total_is : total ≡ length_plain
    pub short : total ≤ 2048

  -- the labels were put, and nothing past the new code
  pub record LabelsIn (total : ℕ) (code' code : List ℕ) : Type 0 where
    pub long : length code' ≡ length code
    pub past : drop total code' ≡ drop total code
    pub stand : LabelsStand code'

-- the place of the map, while it holds the owners
pub record OwnersIn (n : ℕ) (edges map' map : List ℕ) : Type 0 where
  pub long : length map' ≡ length map
  pub past : drop n map' ≡ drop n map
  pub owned : Owned edges n map'
