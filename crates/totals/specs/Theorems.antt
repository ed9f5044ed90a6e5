-- What the totals come to, over a list of at most 65,535 programs and parcels added one after the other to fresh totals.
-- `proofs/Lists.antt` has the proofs.
use Rattle.std.specs.Prelude.{ℕ, ◌*◌, ◌≤◌, ◌<◌, ◌≡◌, Bool, true, false, not, ◌&&◌, List, [], ◌∷◌, ◌++◌, map, eqb, length, get_or, Option, Some, None, Ok, Err}
use Rattle.answers.specs.Faults.{Verdict}
use Rattle.isa.specs.declared.Kind.{Kind}
use Rattle.isa.specs.declared.Technique.{Technique}
use Rattle.checker.specs.Verdicts.{verdict_of}
use Rattle.parcel.specs.Parcel.{Content, holds, refused, read_of}
use Rattle.report.specs.declared.Freedom.{Freedom}
use Rattle.report.specs.Figures.{words_of_kind, freedom, numerator_of, denominator_of}
use Rattle.report.specs.Reports.{Report, freedom_in, report_of, parcel_report}
use Rattle.report.specs.Theorems.{sum}
use Rattle.totals.specs.declared.Largest.{Largest}
use Rattle.totals.specs.declared.Totals.{Totals}
use Rattle.totals.specs.Totals.{fresh_totals, add_report}

-- what is handed over: a program that has been read, or the bytes of a parcel
pub data Handed : Type 0 where
  program : (t : Technique) (memory : List ℕ) (n : ℕ) (edges : List ℕ) → Handed
  parcel : (t : Technique) (bytes : List ℕ) → Handed

abbrev pub report_for : Handed → Report
report_for (program t memory n edges) = report_of t memory n edges
report_for (parcel t bytes) = parcel_report t bytes

-- added one after the other
unfoldable pub add_all : Totals → List Handed → Totals
add_all t [] = t
add_all t (x ∷ xs) = add_all (add_report t (report_for x)).totals xs

-- Which of them are counted: the accepted ones that have a jump. A refused one, and one without jumps, is passed over.
abbrev pub is_accepted : Verdict → Bool
is_accepted (Ok x) = true
is_accepted (Err f) = false

abbrev pub counts_program : Technique → List ℕ → ℕ → List ℕ → Bool
counts_program t memory n edges = is_accepted (verdict_of t memory n edges) && not (eqb (words_of_kind memory n Kind.Jmp) 0)

abbrev pub counts_content : Technique → Content → Bool
counts_content t (holds code edges words) = counts_program t (code ++ words) (length code) edges
counts_content t (refused why) = false

abbrev pub is_counted : Handed → Bool
is_counted (program t memory n edges) = counts_program t memory n edges
is_counted (parcel t bytes) = counts_content t (read_of 2 bytes)

-- the freedom in the report of each: there is one exactly where it is counted
abbrev pub freedom_for : Handed → Option Freedom
freedom_for x = freedom_in (report_for x)

abbrev pub is_freedom : Option Freedom → Bool
is_freedom None = false
is_freedom (Some f) = true

abbrev pub CountedExactly : Type 0
CountedExactly = (x : Handed) → is_freedom (freedom_for x) ≡ is_counted x

abbrev pub freedom_at : List Handed → ℕ → Option Freedom
freedom_at xs i = get_or (map freedom_for xs) i None

-- a of b, at this place, is the largest freedom: no other's passes it, and every earlier one is less
pub record LargestAt (xs : List Handed) (place a b : ℕ) : Type 0 where
  pub within : place < length xs
  pub its_freedom : freedom_at xs place ≡ Some (freedom a b)
  pub no_other_passes : (i c d : ℕ) → freedom_at xs i ≡ Some (freedom c d) → c * b ≤ a * d
  pub earlier_less : (i c d : ℕ) → i < place → freedom_at xs i ≡ Some (freedom c d) → c * b < a * d

-- "where all are passed over the answer is none"
abbrev pub LargestOf : List Handed → Option Largest → Type 0
LargestOf xs None = (i : ℕ) → freedom_at xs i ≡ None
LargestOf xs (Some l) = LargestAt xs l.parcel l.freedom.edges l.freedom.possible

pub record Totalled (xs : List Handed) (t : Totals) : Type 0 where
  -- every one keeps its place, so none was turned away
  pub all_placed : t.parcels ≡ length xs
  pub edges_added : t.edges ≡ sum (map (λ x. numerator_of (freedom_for x)) xs)
  pub possible_added : t.possible ≡ sum (map (λ x. denominator_of (freedom_for x)) xs)
  pub largest_found : LargestOf xs t.largest

abbrev pub TotalsOfList : Type 0
TotalsOfList = (xs : List Handed) → length xs ≤ 65535 → Totalled xs (add_all fresh_totals xs)
