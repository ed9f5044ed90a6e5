-- Where no path leads, no run arrives: the way of a run is a path from 0 to the pc (`integrity`'s `WaysArePaths`).
use Rattle.std.proofs.Common.{ℕ, ◌≡◌, ◌≢◌, sym, ap, ◌∙◌, Bool, true}
use mathlib.Core.List.{List, [], ◌∷◌, ◌++◌, Memᴰ}
use Rattle.std.specs.Prelude.{None, Ok, length}
use Rattle.isa.specs.declared.Technique.{Technique}
use Rattle.graph.specs.Claim.{is_successor}
use Rattle.graph.specs.Paths.{Path}
use Rattle.graph.proofs.CodeWords.{successor_code}
use Rattle.checker.specs.Verdicts.{verdict_of}
use Rattle.integrity.specs.Calls.{Event, trace}
use Rattle.integrity.specs.Demand.{fresh}
use Rattle.integrity.specs.Ways.{WayTo, OnWay, way_from}
use Rattle.integrity.proofs.Ways.{ways_are_paths}
use Rattle.paths.specs.Shortest.{NoPath, Shortest, InCode}
use Rattle.arrivals.specs.Arrivals.{Absent, NeverArrives}

-- an event of a list has some before it and some after it
record Placed (xs : List Event) (e : Event) : Type 0 where
  pub earlier : List Event
  pub later : List Event
  pub split : xs ≡ earlier ++ e ∷ later

placed : (xs : List Event) (e : Event) → Memᴰ e xs → Placed xs e
placed [] e m = elim m [ ]
placed (x ∷ xs) e (Memᴰ.head q) = record { earlier = []; later = xs; split = ap (λ (y : Event). y ∷ xs) (sym q) }
placed (x ∷ xs) e (Memᴰ.tail m) =
    let p = placed xs e m in record { earlier = x ∷ p.earlier; later = p.later; split = ap (λ (ys : List Event). x ∷ ys) p.split }

-- a path of one relation is a path of another that has the same steps
path_by : {f g : ℕ → ℕ → Bool} {start a : ℕ} {way : List ℕ} → ((p q : ℕ) → f p q ≡ true → g p q ≡ true) → Path f start a way → Path g start a way
path_by h Path.Start = Path.Start
path_by h (Path.On {p} {q} path e) = Path.On (path_by h path) (h p q e)

told : {t : Technique} {memory : List ℕ} {n : ℕ} {edges : List ℕ} {address room : ℕ} → Shortest t memory n edges address room (Ok None)
    → (verdict_of t memory n edges ≡ Ok tt) × NoPath (is_successor memory n edges) address
told (Shortest.Inside ok l (InCode.Unreachable none)) = (ok, none)

module _ (code checked edges : List ℕ) (address : ℕ) (none : NoPath (is_successor (code ++ checked) (length code) edges) address) where
  elsewhere : {a : ℕ} {way : List ℕ} → WayTo code edges a way → a ≢ address
  elsewhere {way = way} path e = none way (path_by (λ p q f. successor_code code checked edges p q ∙ f) (rw e at path))

  absent : (way : List ℕ) (e : Event) → OnWay code edges way e → Absent address e
  absent way (Event.Stands c) on = elsewhere on
  absent way (Event.Tried before outcome after) on = (elsewhere on.0, elsewhere on.1)

pub never_arrives : NeverArrives
never_arrives t code checked edges address room answer registers data_words count size calls e there =
    let says = told answer in
    let p = placed (trace t (length code) calls (fresh registers code data_words)) e there in
    absent code checked edges address says.1 (way_from (0 ∷ []) p.earlier) e
    (ways_are_paths t code checked edges says.0 registers data_words count size calls p.earlier p.later e p.split)
