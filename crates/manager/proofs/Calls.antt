-- The call, from what `shortest_path` answers over the part of the place for the path that it may use: all of it, or none.
use Prim.Native.Nat.{ℕ, ◌<◌, ◌≤◌}
use mathlib.Core.Path.{◌≡◌, refl, sym, ap, subst, ◌∙◌}
use mathlib.Core.Bool.{Bool, true, false, cond, ◌||◌}
use mathlib.Core.List.{List, [], ◌∷◌, ◌++◌}
use native.Mathlib.Omega.{arith}
use lib.ListN.{length, take, drop}
use Rattle.std.specs.Prelude.{Option, Some, None, Result, Ok, Err}
use Rattle.lists.specs.Places.{shorter}
use Rattle.lists.proofs.Bools.{clash, or_right}
use Rattle.answers.specs.declared.Fault.{Fault}
use Rattle.isa.specs.declared.Technique.{Technique}
use Rattle.paths.specs.Shortest.{Route, InCode, Shortest, count_of, after_route, PathPut}
use Rattle.paths.proofs.Trails.{path_some}
use Rattle.capi.specs.States.{technique_of}
use Rattle.capi.proofs.Rooms.{none_or_all, kept_either}
use Rattle.manager.specs.Calls.{found_after, PathCall}
use Rattle.manager.specs.Inside.{FoundPut}

-- a path has an address, so it is put nowhere where there is no room
in_code_room : {memory : List ℕ} {n : ℕ} {edges : List ℕ} {address room : ℕ} {way : List ℕ} → InCode memory n edges address room (Ok (Some way)) → 0 < room
in_code_room (InCode.Found way best l) = omega (arith, path_some best.path, l)

way_room : {t : Technique} {memory : List ℕ} {n : ℕ} {edges : List ℕ} {address room : ℕ} {way : List ℕ}
    → Shortest t memory n edges address room (Ok (Some way)) → 0 < room
way_room (Shortest.Inside ok l r) = in_code_room r

none_left : {t : Technique} {memory : List ℕ} {n : ℕ} {edges : List ℕ} {address : ℕ} (route : Route) → Shortest t memory n edges address 0 route
    → (path : List ℕ) → after_route route [] ++ path ≡ after_route route path
none_left (Ok None) s path = refl
none_left (Ok (Some way)) s path = clash (omega (arith, way_room s))
none_left (Err why) s path = refl

none_counted : {t : Technique} {memory : List ℕ} {n : ℕ} {edges : List ℕ} {address : ℕ} (route : Route) → Shortest t memory n edges address 0 route
    → (b : Bool) (count : List ℕ) → cond b count (found_after (count_of route) count) ≡ found_after (count_of route) count
none_counted (Ok None) s b count = kept_either b count
none_counted (Ok (Some way)) s b count = clash (omega (arith, way_room s))
none_counted (Err why) s b count = kept_either b count

module _ {technique : ℕ} {memory : List ℕ} {n : ℕ} {edges : List ℕ} {address : ℕ} {path count place : List ℕ} {found : Result (Option ℕ) Fault} {r : ℕ} {count' place' : List ℕ}
    (put : FoundPut found count place r count' place') where
  none_put : {part : List ℕ} → (shorter place 2 || shorter count 1) ≡ true → PathPut (technique_of technique) memory n edges address [] found part
      → PathCall technique memory n edges address path count place r (part ++ path) count' place'
  none_put short p =
      record {
        route = p.route;
        right = rw short p.right;
        answer = put.answer ∙ rw p.answer;
        path_after = ap (λ (x : List ℕ). x ++ path) p.place_after ∙ none_left p.route p.right path;
        count_after = put.count_after ∙ rw p.answer (none_counted p.route p.right (shorter count 1) count);
        place_after = put.place_after ∙ rw p.answer;
      }

  all_put : {path' : List ℕ} → (shorter place 2 || shorter count 1) ≡ false → PathPut (technique_of technique) memory n edges address path found path'
      → PathCall technique memory n edges address path count place r path' count' place'
  all_put room p =
      record {
        route = p.route;
        right = rw room p.right;
        answer = put.answer ∙ rw p.answer;
        path_after = p.place_after;
        count_after = put.count_after ∙ rw (or_right (shorter place 2) (shorter count 1) room, p.answer);
        place_after = put.place_after ∙ rw p.answer;
      }

  pub call_done : {room : ℕ} {part : List ℕ} → room ≡ cond (shorter place 2 || shorter count 1) 0 (length path)
      → PathPut (technique_of technique) memory n edges address (take room path) found part
      → PathCall technique memory n edges address path count place r (part ++ drop room path) count' place'
  call_done e p =
      none_or_all (λ (x y : List ℕ). PathPut (technique_of technique) memory n edges address x found y)
      (λ (x : List ℕ). PathCall technique memory n edges address path count place r x count' place') (shorter place 2 || shorter count 1) e p none_put all_put
