-- The calls for the site owner (document 02, K1): figures as 16 numbers, totals as 6.
use Rattle.std.specs.Prelude.{ℕ, ◌^◌, ◌≡◌, Bool, cond, ◌&&◌, ◌||◌, List, [], ◌∷◌, ◌++◌, get_or, leb, ltb, eqb, Option, Some, None, Ok, Err}
use Rattle.answers.specs.declared.Place.{Place}
use Rattle.answers.specs.Numbers.{refusal_number}
use Rattle.lists.specs.Places.{shorter, put_over}
use Rattle.report.specs.declared.Figures.{Figures}
use Rattle.report.specs.Figures.{freedom, numerator_of, denominator_of}
use Rattle.report.specs.Reports.{Report}
use Rattle.totals.specs.declared.Largest.{Largest}
use Rattle.totals.specs.declared.Totals.{Totals}
use Rattle.totals.specs.declared.Added.{Added}
use Rattle.totals.specs.Totals.{totals, largest_at, add_report}
use Rattle.capi.specs.Words.{too_short}
use Rattle.capi.specs.Checks.{answer_number, place_numbers, answer_place}

-- words of each kind, target sets, the size of the largest; distinct edges and possible ones, both 0 without jumps
abbrev pub figure_numbers : Figures → List ℕ
figure_numbers f = f.kinds ++ (f.sets ∷ f.largest ∷ numerator_of f.freedom ∷ denominator_of f.freedom ∷ [])

-- a refused program has no figures, and leaves their place as it was
abbrev pub figures_after : Report → List ℕ → List ℕ
figures_after (Ok figures) place = put_over (figure_numbers figures) place
figures_after (Err f) place = place

-- the contract of `pg_report` and of `pg_report_parcel`: the answer r to this report, and the places that the call leaves
pub record ReportCall (report : Report) (figures place : List ℕ) (r : ℕ) (figures' place' : List ℕ) : Type 0 where
  pub answer : r ≡ cond (shorter figures 16 || shorter place 2) too_short (answer_number report)
  pub figures_after :
      figures' ≡ cond (shorter figures 16 || shorter place 2) figures (figures_after report figures)
  pub place_after :
      place' ≡ cond (shorter figures 16 || shorter place 2) place (put_over (place_numbers (answer_place report)) place)

-- the parcel with the largest freedom, its edges and its possible ones; 0, 0, 0 where there is none
abbrev pub largest_numbers : Option Largest → List ℕ
largest_numbers None = 0 ∷ 0 ∷ 0 ∷ []
largest_numbers (Some l) = l.parcel ∷ l.freedom.edges ∷ l.freedom.possible ∷ []

abbrev pub total_numbers : Totals → List ℕ
total_numbers t = t.parcels ∷ t.edges ∷ t.possible ∷ largest_numbers t.largest

-- what six numbers say: the last is 0 where there is no largest parcel
abbrev pub largest_by : ℕ → ℕ → ℕ → Option Largest
largest_by place edges possible = cond (eqb possible 0) None (Some (largest_at place (freedom edges possible)))

abbrev pub totals_in : List ℕ → Totals
totals_in words =
    totals (get_or words 0 0) (get_or words 1 0) (get_or words 2 0) (largest_by (get_or words 3 0) (get_or words 4 0) (get_or words 5 0))

-- at most 65,535 parcels, and "its two numbers kept in 32 bits each"
abbrev pub are_totals : List ℕ → Bool
are_totals words =
    leb (get_or words 0 0) 65535
    && (leb (get_or words 3 0) 65535 && (ltb (get_or words 4 0) (2 ^ 32) && ltb (get_or words 5 0) (2 ^ 32)))

-- an answer "of its own, without" a number of document 01: these two are above all of them
abbrev pub added_number : Added → ℕ
added_number Added.Counted = 0
added_number Added.WithoutJumps = 256
added_number (Added.Refused f) = refusal_number f.refusal
added_number Added.Unchanged = 257

abbrev pub added_place : Added → Place
added_place Added.Counted = Place.Nowhere
added_place Added.WithoutJumps = Place.Nowhere
added_place (Added.Refused f) = f.place
added_place Added.Unchanged = Place.Nowhere

abbrev pub totals_after : Added → Totals → List ℕ → List ℕ
totals_after Added.Counted t words = put_over (total_numbers t) words
totals_after Added.WithoutJumps t words = put_over (total_numbers t) words
totals_after (Added.Refused f) t words = put_over (total_numbers t) words
totals_after Added.Unchanged t words = words

-- what becomes of the parcel; numbers that are no totals are given back as they were
abbrev pub added_to : List ℕ → Report → Added
added_to words report = cond (are_totals words) (add_report (totals_in words) report).answer Added.Unchanged

abbrev pub sums_after : List ℕ → Report → List ℕ
sums_after words report = totals_after (added_to words report) (add_report (totals_in words) report).totals words

-- the contract of `pg_add_report` and of `pg_add_parcel`: the answer r to this report, and the places that the call leaves
pub record AddCall (report : Report) (words place : List ℕ) (r : ℕ) (words' place' : List ℕ) : Type 0 where
  pub answer : r ≡ cond (shorter words 6 || shorter place 2) too_short (added_number (added_to words report))
  pub totals_after : words' ≡ cond (shorter words 6 || shorter place 2) words (sums_after words report)
  pub place_after :
      place' ≡ cond (shorter words 6 || shorter place 2) place (put_over (place_numbers (added_place (added_to words report))) place)
