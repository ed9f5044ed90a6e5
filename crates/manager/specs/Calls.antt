-- The call for the shortest way to an address (document 02, K9).
use Rattle.std.specs.Prelude.{ℕ, ◌≡◌, cond, ◌||◌, List, [], ◌∷◌, length, Option, None, Some, Result, Ok, Err}
use Rattle.lists.specs.Places.{shorter, put_over}
use Rattle.answers.specs.declared.Fault.{Fault}
use Rattle.answers.specs.Numbers.{refusal_number}
use Rattle.paths.specs.Shortest.{Route, Shortest, count_of, after_route}
use Rattle.capi.specs.States.{technique_of}
use Rattle.capi.specs.Checks.{answer_place, place_after}

-- 0 where the path is put, and 258 where there is none
abbrev pub found_number : Result (Option ℕ) Fault → ℕ
found_number (Ok None) = 258
found_number (Ok (Some len)) = 0
found_number (Err f) = refusal_number f.refusal

-- how many addresses were put
abbrev pub found_after : Result (Option ℕ) Fault → List ℕ → List ℕ
found_after (Ok None) count = count
found_after (Ok (Some len)) count = put_over (len ∷ []) count
found_after (Err f) count = count

-- 5: the places for the count and for the place of a refusal are lent places as the path's is
abbrev pub path_room : List ℕ → List ℕ → List ℕ → ℕ
path_room path count place = cond (shorter place 2 || shorter count 1) 0 (length path)

-- the contract of `pg_shortest_path`: its answer r, and the three places that it leaves
pub record PathCall (technique : ℕ) (memory : List ℕ) (n : ℕ) (edges : List ℕ) (address : ℕ) (path count place : List ℕ) (r : ℕ) (path' count' place' : List ℕ) : Type 0 where
  pub route : Route
  pub right : Shortest (technique_of technique) memory n edges address (path_room path count place) route
  pub answer : r ≡ found_number (count_of route)
  pub path_after : path' ≡ after_route route path
  pub count_after : count' ≡ found_after (count_of route) count
  -- the place of a refusal is put where there is room for it
  pub place_after : place' ≡ place_after (answer_place (count_of route)) place
