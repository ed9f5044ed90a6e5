-- What only the private functions of this crate promise each other: what stands in the queue of the search, and the path that it gives.
use Rattle.std.specs.Prelude.{ℕ, ◌+◌, ◌≤◌, ◌<◌, ◌≡◌, ◌⊎◌, Bool, true, false, cond, ◌||◌, List, [], ◌∷◌, ◌++◌, length, get_or, set, replicate, leb, Option, None, Some, Result}
use Rattle.lists.specs.Search.{count}
use Rattle.lists.specs.Places.{put_over}
use Rattle.answers.specs.declared.Fault.{Fault}
use Rattle.graph.specs.Claim.{is_return, is_successor}
use Rattle.paths.specs.declared.reached.Reached.{Reached}
use Rattle.paths.specs.declared.program.Program.{Program}
use Rattle.paths.specs.Shortest.{NoPath, Best, Route, InCode, count_of, after_route}

-- which address follows which in the graph of a program
abbrev pub follows_in : Program → ℕ → ℕ → Bool
follows_in program = is_successor program.memory.now program.n program.edges.now

-- what is put for an address of its code, and answered
pub record PutAt (program : Program) (address : ℕ) (place : List ℕ) (r : Result (Option ℕ) Fault) (place' : List ℕ) : Type 0 where
  pub route : Route
  pub right : InCode program.memory.now program.n program.edges.now address (length place) route
  pub answer : r ≡ count_of route
  pub place_after : place' ≡ after_route route place

-- the address at place i of the queue, and the place of the one from which it was reached
abbrev pub at : Reached → ℕ → ℕ
at r i = get_or r.queue i 0

abbrev pub from : Reached → ℕ → ℕ
from r i = get_or r.before i 0

-- 0 alone
abbrev pub start_of : Reached
start_of = record { queue = replicate 2048 0; before = replicate 2048 0; noted = set (replicate 2048 false) 0 true; len = 1 }

-- an address put at the end, as reached from the one at `head`, unless it is outside code or there already
abbrev pub note_of : ℕ → ℕ → ℕ → Reached → Reached
note_of n head a r =
    cond (leb n a || get_or r.noted a false) r
    (record { queue = set r.queue r.len a; before = set r.before r.len head; noted = set r.noted a true; len = r.len + 1 })

-- the address v is in the queue
abbrev pub In : Reached → ℕ → Type 0
In r v = (i : ℕ) × (i < r.len) × (at r i ≡ v)

-- the queue has grown, at its end
pub record Grown (r r' : Reached) : Type 0 where
  pub longer : r.len ≤ r'.len
  pub same : (i : ℕ) → i < r.len → at r' i ≡ at r i

pub record Sizes (r : Reached) : Type 0 where
  pub queue_size : length r.queue ≡ 2048
  pub before_size : length r.before ≡ 2048
  pub noted_size : length r.noted ≡ 2048

-- each address but the first was reached from one that stands before it
abbrev pub Back : Reached → Type 0
Back r = (i : ℕ) → 0 < i → i < r.len → from r i < i

module _ (follows : ℕ → ℕ → Bool) (n : ℕ) (r : Reached) where
  -- 0 and then addresses that follow others before them, and as many as are marked
  pub record Queue : Type 0 where
    pub sizes : Sizes r
    pub some : 0 < r.len
    pub starts : at r 0 ≡ 0
    pub root : from r 0 ≡ 0
    pub inside : (i : ℕ) → i < r.len → at r i < n
    pub back : Back r
    pub leads : (i : ℕ) → 0 < i → i < r.len → follows (at r (from r i)) (at r i) ≡ true
    -- first those that were reached from an earlier one; of those reached from the same, the lower first
    pub order : (i j : ℕ) → 0 < i → i < j → j < r.len → (from r i < from r j) ⊎ ((from r i ≡ from r j) × (at r i < at r j))
    pub found : (v : ℕ) → v < n → get_or r.noted v false ≡ true → In r v
    pub counted : r.len ≡ count (λ v. get_or r.noted v false) n

  -- the successors of the addresses before `head` were noted, each as reached from no later one
  abbrev pub Passed : ℕ → Type 0
  Passed head = (h v : ℕ) → h < head → follows (at r h) v ≡ true → (i : ℕ) × (i < r.len) × (at r i ≡ v) × (from r i ≤ h)

  -- and nothing else was
  pub record Front (head : ℕ) : Type 0 where
    pub queue : Queue
    pub passed : Passed head
    pub earlier : (i : ℕ) → 0 < i → i < r.len → from r i < head

  -- then of the successors of p, the address at `head`, those below x
  pub record Led (head p x : ℕ) : Type 0 where
    pub queue : Queue
    pub here : head < r.len
    pub stands : at r head ≡ p
    pub passed : Passed head
    pub latest : (i : ℕ) → 0 < i → i < r.len → from r i ≤ head
    pub below : (v : ℕ) → v < x → follows p v ≡ true → In r v
    pub above : (i : ℕ) → 0 < i → i < r.len → from r i ≡ head → at r i < x

-- the successors of the address at `head` were noted, and the queue has grown by no other
abbrev pub Spread : (ℕ → ℕ → Bool) → ℕ → ℕ → Reached → Reached → Type 0
Spread follows n head r r' = Front follows n r' (head + 1) × Grown r r'

-- where a ret was passed, the words after all calls are in the queue
abbrev pub Homes : List ℕ → ℕ → Bool → Reached → Type 0
Homes memory n returned r = returned ≡ true → (q : ℕ) → q < n → is_return memory n q ≡ true → In r q

-- what is left once the address at `head` was passed, where `returned` tells whether a ret was
pub record NextNoted (program : Program) (head : ℕ) (r r' : Reached) (returned : Bool) : Type 0 where
  pub spread : Spread (follows_in program) program.n head r r'
  pub homes : Homes program.memory.now program.n returned r'

-- the addresses that lead from 0 to the one at place i
pub data Trail (r : Reached) : ℕ → List ℕ → Type 0 where
  Begin : Trail r 0 (at r 0 ∷ [])
  Next : {i : ℕ} {way : List ℕ} → 0 < i → Trail r (from r i) way → Trail r i (way ++ at r i ∷ [])

-- how many they are, and they put at the front of a place
abbrev pub LenOf : Reached → ℕ → ℕ → Type 0
LenOf r i k = (way : List ℕ) → Trail r i way → k ≡ length way

abbrev pub PathOver : Reached → ℕ → List ℕ → List ℕ → Type 0
PathOver r i place place' = (way : List ℕ) → Trail r i way → place' ≡ put_over way place

-- the best path leads to the place that the search answers, or there is none
abbrev pub Searched : Program → ℕ → Reached → Option ℕ → Type 0
Searched program address r None = NoPath (follows_in program) address
Searched program address r (Some i) =
    (i < r.len) × (r.len ≤ 2048) × Sizes r × Back r × ((way : List ℕ) → Trail r i way → Best (follows_in program) address way)
