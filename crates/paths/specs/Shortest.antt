-- The shortest way to an address (document 02, K9): what is answered, told by the paths of the graph alone, and what is left in the lent place.
use Rattle.std.specs.Prelude.{ℕ, ◌≡◌, ◌≤◌, ◌<◌, ◌⊎◌, Bool, List, ◌∷◌, length, Option, None, Some, Result, Ok, Err}
use Rattle.lists.specs.Places.{put_over}
use Rattle.answers.specs.declared.Refusal.{Refusal}
use Rattle.answers.specs.declared.Place.{Place}
use Rattle.answers.specs.declared.Fault.{Fault}
use Rattle.answers.specs.Faults.{fault}
use Rattle.isa.specs.declared.Technique.{Technique}
use Rattle.graph.specs.Claim.{is_successor}
use Rattle.graph.specs.Paths.{Path}
use Rattle.checker.specs.Verdicts.{verdict_of}

-- the first of two lists is "the one with the lower address where they first part"
pub data PartsLower : List ℕ → List ℕ → Type 0 where
  Here : {a b : ℕ} {p q : List ℕ} → a < b → PartsLower (a ∷ p) (b ∷ q)
  Later : {a : ℕ} {p q : List ℕ} → PartsLower p q → PartsLower (a ∷ p) (a ∷ q)

module _ (follows : ℕ → ℕ → Bool) (address : ℕ) where
  abbrev pub PathTo : List ℕ → Type 0
  PathTo way = Path follows 0 address way

  abbrev pub NoPath : Type 0
  NoPath = (way : List ℕ) → PathTo way → ⊥

  -- "a path from 0 with the fewest graph steps; among equals, the one with the lower address where they first part"
  pub record Best (way : List ℕ) : Type 0 where
    pub path : PathTo way
    pub fewest : (other : List ℕ) → PathTo other → length way ≤ length other
    pub lowest : (other : List ℕ) → PathTo other → length other ≡ length way → (other ≡ way) ⊎ PartsLower way other

-- what is answered, with the path itself where one is found: `Ok None` is "unreachable"
abbrev pub Route : Type 0
Route = Result (Option (List ℕ)) Fault

-- to an address of the code of an accepted program, where the lent place has room for so many addresses
pub data InCode (memory : List ℕ) (n : ℕ) (edges : List ℕ) (address room : ℕ) : Route → Type 0 where
  Unreachable : NoPath (is_successor memory n edges) address → InCode memory n edges address room (Ok None)
  TooShort : (way : List ℕ) → Best (is_successor memory n edges) address way → room < length way
      → InCode memory n edges address room (Err (fault Refusal.PlaceTooShort Place.Nowhere))
  Found : (way : List ℕ) → Best (is_successor memory n edges) address way → length way ≤ room
      → InCode memory n edges address room (Ok (Some way))

-- to any address, of any program: "23, an address outside code, after every checker refusal; then 5"
pub data Shortest (t : Technique) (memory : List ℕ) (n : ℕ) (edges : List ℕ) (address room : ℕ) : Route → Type 0 where
  Refused : (why : Fault) → verdict_of t memory n edges ≡ Err why → Shortest t memory n edges address room (Err why)
  Outside : verdict_of t memory n edges ≡ Ok tt → n ≤ address
      → Shortest t memory n edges address room (Err (fault Refusal.OutsideCode Place.Nowhere))
  Inside : {route : Route} → verdict_of t memory n edges ≡ Ok tt → address < n → InCode memory n edges address room route
      → Shortest t memory n edges address room route

-- "the answer is their count"
abbrev pub count_of : Route → Result (Option ℕ) Fault
count_of (Ok None) = Ok None
count_of (Ok (Some way)) = Ok (Some (length way))
count_of (Err why) = Err why

-- "The lent place gets the addresses from 0 to the one asked for", and nothing is touched past them; else "nothing is put there"
abbrev pub after_route : Route → List ℕ → List ℕ
after_route (Ok None) place = place
after_route (Ok (Some way)) place = put_over way place
after_route (Err why) place = place

-- the contract of `shortest_path`: its answer r, and the place that it leaves
pub record PathPut (t : Technique) (memory : List ℕ) (n : ℕ) (edges : List ℕ) (address : ℕ) (place : List ℕ) (r : Result (Option ℕ) Fault) (place' : List ℕ) : Type 0 where
  pub route : Route
  pub right : Shortest t memory n edges address (length place) route
  pub answer : r ≡ count_of route
  pub place_after : place' ≡ after_route route place
