-- What the checker's passes over rising edges know, and leave in their arrays. Contracts of private functions cite these; nothing that
-- is promised outside does.
use Rattle.std.specs.Prelude.{ℕ, ◌+◌, ◌-◌, ◌<◌, ◌≤◌, ◌≡◌, ◌⊎◌, ◌≢◌, Bool, true, false, not, ◌&&◌, ◌||◌, eqb, List, length, get_or, Option, None, Some, Result, Ok, Err}
use Rattle.lists.specs.Search.{count, first}
use Rattle.graph.specs.Claim.{edge_count, jump_of, target_of, is_edge, id_of}
use Rattle.graph.specs.Rules.{starts_at_no_jump, lacks_edge, overlaps}
use Rattle.graph.specs.Passes.{Sized, Within, Owned}
use Rattle.rising.specs.Rising.{not_rising}
use Rattle.isa.specs.declared.Technique.{Technique}
use Rattle.guards.specs.Sequences.{jump_guard, ends_at}

-- memory and edges that rules 6 to 8 and 18 passed
pub record Claimed (memory : List ℕ) (n : ℕ) (edges : List ℕ) : Type 0 where
  pub sized : Sized memory n
  pub within : Within edges n
  pub from_jumps : (k : ℕ) → k < edge_count edges → starts_at_no_jump memory n edges k ≡ false
  pub rising : (k : ℕ) → k < edge_count edges → not_rising edges k ≡ false

-- rule 9 passed
abbrev pub Leaving : List ℕ → ℕ → List ℕ → Type 0
Leaving memory n edges = (a : ℕ) → a < n → lacks_edge memory edges a ≡ false

-- so many, unless a place was found
abbrev pub unless_some : ℕ → Option ℕ → Result ℕ ℕ
unless_some many None = Ok many
unless_some many (Some a) = Err a

-- edge k is the first of its jump
abbrev pub is_first : List ℕ → ℕ → Bool
is_first edges k = eqb k 0 || not (eqb (jump_of edges (k - 1)) (jump_of edges k))

-- edge k is the first of its jump, and the sequence for its target does not end at that jump
abbrev pub starts_bare : Technique → List ℕ → ℕ → List ℕ → ℕ → Bool
starts_bare t memory n edges k = is_first edges k && not (ends_at memory (jump_guard t n (target_of edges k)) (jump_of edges k))

-- the edges from k on that start at j end at the edge `end`
pub record Run (edges : List ℕ) (j k end : ℕ) : Type 0 where
  pub from : k ≤ end
  pub upto : end ≤ edge_count edges
  pub mine : (i : ℕ) → k ≤ i → i < end → jump_of edges i ≡ j
  pub next : end < edge_count edges → jump_of edges end ≢ j

-- the edges from k to `end` are all those of one jump, the one to its lowest target first
pub record EdgesOf (edges : List ℕ) (n k end : ℕ) : Type 0 where
  pub some_edge : k < end
  pub upto : end ≤ edge_count edges
  pub mine : (i : ℕ) → k ≤ i → i < end → jump_of edges i ≡ jump_of edges k
  pub all : (i : ℕ) → i < edge_count edges → jump_of edges i ≡ jump_of edges k → (k ≤ i) × (i < end)
  pub lowest_first : target_of edges k ≡ id_of edges n (jump_of edges k)
  pub many : end - k ≡ count (is_edge edges (jump_of edges k)) n

-- the owners of addresses when the target sets of the jumps below a were met: the ID of a set; n, nobody; n + 1, contested
pub record Met (edges : List ℕ) (n a : ℕ) (own : List ℕ) : Type 0 where
  -- an address that somebody owns is a target of one of those jumps
  pub taken : (t : ℕ) → t < n → get_or own t 0 ≢ n → (j : ℕ) × (j < a) × (is_edge edges j t ≡ true)
  -- a target of such a jump is owned by the jump's ID, or contested
  pub held : (j t : ℕ) → j < a → is_edge edges j t ≡ true → (get_or own t 0 ≡ id_of edges n j) ⊎ (get_or own t 0 ≡ n + 1)
  -- two that share an address which is not contested have one set
  pub one : (i j t : ℕ) → i < a → j < a → is_edge edges i t ≡ true → is_edge edges j t ≡ true → get_or own t 0 ≢ n + 1
      → (u : ℕ) → u < n → is_edge edges i u ≡ is_edge edges j u
  -- a contested address is a target of a jump that breaks rule 10
  pub contested : (t : ℕ) → t < n → get_or own t 0 ≡ n + 1 → (j : ℕ) × (is_edge edges j t ≡ true) × (overlaps edges n j ≡ true)

-- the two arrays then: where the ID of a set owns itself, the second has the size of that set
pub record Put (edges : List ℕ) (n a : ℕ) (own size : List ℕ) : Type 0 where
  pub own_length : length own ≡ 2048
  pub size_length : length size ≡ 2048
  pub met : Met edges n a own
  pub sizes : (j : ℕ) → j < a → id_of edges n j < n → get_or own (id_of edges n j) 0 ≡ id_of edges n j
      → get_or size (id_of edges n j) 0 ≡ count (is_edge edges j) n

-- the set of the jump whose first edge is k is new, all its addresses nobody's, or one that was met
pub record Fits (edges : List ℕ) (n k : ℕ) (own size : List ℕ) : Type 0 where
  pub alike : (t : ℕ) → is_edge edges (jump_of edges k) t ≡ true → get_or own t 0 ≡ get_or own (target_of edges k) 0
  pub new_or_met : (get_or own (target_of edges k) 0 ≡ n)
      ⊎ ((get_or own (target_of edges k) 0 ≡ target_of edges k)
      × (get_or size (target_of edges k) 0 ≡ count (is_edge edges (jump_of edges k)) n))

-- what the answer of a test says
abbrev pub Told : Bool → Type 0 → Type 0 → Type 0
Told true A B = A
Told false A B = B

-- every target of jump j is owned by o, or one is not
abbrev pub OwnedBy : Bool → List ℕ → ℕ → ℕ → List ℕ → Type 0
OwnedBy r edges j o own =
    Told r ((t : ℕ) → is_edge edges j t ≡ true → get_or own t 0 ≡ o) ((t : ℕ) × (is_edge edges j t ≡ true) × (get_or own t 0 ≢ o))

-- the set of the jump whose first edge is k fits, or that jump breaks rule 10
abbrev pub Judged : Bool → List ℕ → ℕ → ℕ → List ℕ → List ℕ → Type 0
Judged r edges n k own size = Told r (Fits edges n k own size) (overlaps edges n (jump_of edges k) ≡ true)

-- it is put in; where it fits, no address has become contested
pub record SetPut (r : Bool) (edges : List ℕ) (n k : ℕ) (old own size : List ℕ) : Type 0 where
  pub put : Put edges n (jump_of edges k + 1) own size
  pub calm : r ≡ true → (t : ℕ) → t < n → get_or own t 0 ≡ n + 1 → get_or old t 0 ≡ n + 1

-- all sets were met; where all fit, no address is contested
pub record AllPut (r : Bool) (edges : List ℕ) (n : ℕ) (own : List ℕ) : Type 0 where
  pub met : Met edges n n own
  pub calm : r ≡ true → (t : ℕ) → t < n → get_or own t 0 ≢ n + 1

-- rule 10 tested, and where it passed, the owners
pub record Overlapped (r : Option ℕ) (edges : List ℕ) (n : ℕ) (own : List ℕ) : Type 0 where
  pub is : r ≡ first (overlaps edges n) n
  pub owners : r ≡ None → Owned edges n own
