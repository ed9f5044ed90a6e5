-- The way of a run is a path: by demand 3 each step made leads to a successor, and a bus write leaves the pc as it is.
use Prim.Native.Nat.{ℕ}
use mathlib.Core.Path.{◌≡◌, refl}
use mathlib.Core.List.{List, [], ◌∷◌, ◌++◌}
use lib.ListN.{length}
use Rattle.std.specs.Prelude.{Ok, Err}
use Rattle.lists.proofs.Bools.{clash}
use Rattle.isa.specs.declared.Technique.{Technique}
use Rattle.machine.specs.Numbers.{Outcome}
use Rattle.machine.specs.Runs.{if_made}
use Rattle.graph.specs.Paths.{Path}
use Rattle.checker.specs.Conditions.{Conditions}
use Rattle.checker.proofs.Equivalence.{accepted_exactly}
use Rattle.integrity.specs.Calls.{Config, Event, outcome_at, after_step}
use Rattle.integrity.specs.Demand.{fresh, StepHeld}
use Rattle.integrity.specs.Ways.{way_after, way_from, WayTo, OnWay, WaysArePaths}
use Rattle.integrity.proofs.Steps.{step_good}
use Rattle.integrity.proofs.Demand.{Kept, registers_alone, at_start, after_data, after_register}
use Rattle.integrity.proofs.Traversal.{Along, Carries, all_place, carried, traced}

-- the walk carries the way along
abbrev along : Along (List ℕ)
along = record { next = way_after; stands = λ way c. refl }

carried_way : (way : List ℕ) (events : List Event) → carried (List ℕ) along way events ≡ way_from way events
carried_way way [] = refl
carried_way way (e ∷ events) = carried_way (way_after way e) events

module _ (t : Technique) (code checked edges : List ℕ) (ok : Conditions t (code ++ checked) (length code) edges) where
  -- the invariant of demand 3, and that the way leads to the pc
  abbrev Leads : List ℕ → Config → Type 0
  Leads way c = Kept t code checked edges ok c × WayTo code edges c.state.pc way

  led : (way : List ℕ) (c d : Config) (o : Outcome) → WayTo code edges c.state.pc way → StepHeld t code edges c o d
      → WayTo code edges d.state.pc (if_made o (way ++ d.state.pc ∷ []) way)
  led way c d (Ok _) p h = Path.On p (h.lands_on_edge refl)
  led way c d (Err halt) p h = rw (h.stop_changes_nothing (λ made. clash (cc))) p

  carries : Carries t (length code) (List ℕ) along Leads (OnWay code edges)
  carries =
      record {
        standing = λ way c l. l.1;
        stepping = λ way c l.
            let good = step_good t code checked edges ok c l.0 in
            let p = led way c (after_step t (length code) c) (outcome_at t (length code) c) l.1 good.0 in
            ((l.1, p), (good.1, p));
        data_write = λ way c address word l. (after_data t code checked edges ok c address word l.0, l.1);
        register_write = λ way c register word l.
            (after_register t code checked edges ok c register word l.0, rw (registers_alone c.state register word).1 l.1);
      }

pub ways_are_paths : WaysArePaths
ways_are_paths t code checked edges accepted registers data_words count size calls earlier later e placed =
    let ok = accepted_exactly.sound t (code ++ checked) (length code) edges accepted in
    let start = fresh registers code data_words in
    let all = traced t (length code) (List ℕ) along (Leads t code checked edges ok) (OnWay code edges) (carries t code checked edges ok) calls (0 ∷ []) start
    (at_start t code checked edges ok registers data_words count size, Path.Start) in
    rw (carried_way (0 ∷ []) earlier) at (all_place (List ℕ) along (OnWay code edges) (0 ∷ []) earlier later e (rw placed at all))
