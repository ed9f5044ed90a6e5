-- Totals over parcels (document 02, K1), one addition at a time.
use Rattle.std.specs.Prelude.{ℕ, ◌+◌, ◌*◌, ◌^◌, Bool, cond, ◌&&◌, ltb, Option, Some, None, Ok, Err}
use Rattle.report.specs.declared.Freedom.{Freedom}
use Rattle.report.specs.Reports.{Report}
use Rattle.totals.specs.declared.Largest.{Largest}
use Rattle.totals.specs.declared.Totals.{Totals}
use Rattle.totals.specs.declared.Added.{Added}
use Rattle.totals.specs.declared.Addition.{Addition}

abbrev pub totals : ℕ → ℕ → ℕ → Option Largest → Totals
totals parcels edges possible largest = record { parcels = parcels; edges = edges; possible = possible; largest = largest }

abbrev pub addition : Totals → Added → Addition
addition t answer = record { totals = t; answer = answer }

abbrev pub fresh_totals : Totals
fresh_totals = totals 0 0 0 None

abbrev pub largest_at : ℕ → Freedom → Largest
largest_at place f = record { parcel = place; freedom = f }

-- "the largest freedom by cross products .. earliest on a tie": c of d is more than a of b where a times d is less than c times b
abbrev pub is_larger : Freedom → Freedom → Bool
is_larger f earlier = ltb (earlier.edges * f.possible) (f.edges * earlier.possible)

abbrev pub largest_after : ℕ → Freedom → Option Largest → Option Largest
largest_after place f None = Some (largest_at place f)
largest_after place f (Some l) = cond (is_larger f l.freedom) (Some (largest_at place f)) (Some l)

-- "A refused parcel, or one without jumps, is passed over but keeps its place"
abbrev pub passed_over : Totals → Totals
passed_over t = totals (t.parcels + 1) t.edges t.possible t.largest

-- "adds numerators and denominators separately"
abbrev pub counted : Totals → Freedom → Totals
counted t f = totals (t.parcels + 1) (t.edges + f.edges) (t.possible + f.possible) (largest_after t.parcels f t.largest)

-- not: "whose sum would pass 64 bits"
abbrev pub sums_fit : Totals → Freedom → Bool
sums_fit t f = ltb (t.edges + f.edges) (2 ^ 64) && ltb (t.possible + f.possible) (2 ^ 64)

abbrev pub add_freedom : Totals → Option Freedom → Addition
add_freedom t None = addition (passed_over t) Added.WithoutJumps
add_freedom t (Some f) = cond (sums_fit t f) (addition (counted t f) Added.Counted) (addition t Added.Unchanged)

abbrev pub add_one : Totals → Report → Addition
add_one t (Ok figures) = add_freedom t figures.freedom
add_one t (Err f) = addition (passed_over t) (Added.Refused f)

-- "Over up to 65,535 parcels .. A further one .. gives the totals back as they were", whatever it is
unfoldable pub add_report : Totals → Report → Addition
add_report t r = cond (ltb t.parcels 65535) (add_one t r) (addition t Added.Unchanged)
