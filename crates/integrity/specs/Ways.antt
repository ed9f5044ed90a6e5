-- The way of a run is a path of the graph: the addresses where it stood, 0 first, and then the pc after each step made.
use Rattle.std.specs.Prelude.{ℕ, ◌≡◌, length, Ok}
use mathlib.Core.List.{List, [], ◌∷◌, ◌++◌}
use Rattle.isa.specs.declared.Technique.{Technique}
use Rattle.machine.specs.Runs.{if_made}
use Rattle.graph.specs.Claim.{is_successor}
use Rattle.graph.specs.Paths.{Path}
use Rattle.checker.specs.Verdicts.{verdict_of}
use Rattle.integrity.specs.Calls.{Call, Event, trace}
use Rattle.integrity.specs.Demand.{fresh}

abbrev pub way_after : List ℕ → Event → List ℕ
way_after way (Event.Stands c) = way
way_after way (Event.Tried before outcome after) = if_made outcome (way ++ after.state.pc ∷ []) way

-- after all these events, of which the first comes first
abbrev pub way_from : List ℕ → List Event → List ℕ
way_from way [] = way
way_from way (e ∷ events) = way_from (way_after way e) events

-- a path from 0 in the graph of the code
abbrev pub WayTo : List ℕ → List ℕ → ℕ → List ℕ → Type 0
WayTo code edges a way = Path (is_successor code (length code) edges) 0 a way

-- the way so far leads to where the machine stands, and a step made leads on
abbrev pub OnWay : List ℕ → List ℕ → List ℕ → Event → Type 0
OnWay code edges way (Event.Stands c) = WayTo code edges c.state.pc way
OnWay code edges way (Event.Tried before outcome after) =
    WayTo code edges before.state.pc way × WayTo code edges after.state.pc (way_after way (Event.Tried before outcome after))

-- Over an accepted program, in every list of steps, runs and bus writes from a fresh state: at any place of the trace, the way that the
-- events before it make is a path from 0 to the pc.
abbrev pub WaysArePaths : Type 0
WaysArePaths =
    (t : Technique) (code checked edges : List ℕ) → verdict_of t (code ++ checked) (length code) edges ≡ Ok tt
    → (registers data_words : List ℕ) → length registers ≡ 32 → length data_words ≡ length checked → (calls : List Call)
    → (earlier later : List Event) (e : Event) → trace t (length code) calls (fresh registers code data_words) ≡ earlier ++ e ∷ later
    → OnWay code edges (way_from (0 ∷ []) earlier) e
