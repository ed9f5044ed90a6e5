-- What is proved of the figures. `proofs/ByKind.antt`, `proofs/AsListed.antt` and `proofs/Bounds.antt` have the proofs.
use Rattle.std.specs.Prelude.{ℕ, ◌+◌, ◌^◌, ◌≤◌, ◌<◌, ◌≡◌, List, [], ◌∷◌, Some, Ok}
use Rattle.isa.specs.declared.Technique.{Technique}
use Rattle.graph.specs.Claim.{edge_count}
use Rattle.checker.specs.Verdicts.{verdict_of}
use Rattle.report.specs.Figures.{kinds_of, distinct_edges, freedom}
use Rattle.report.specs.Reports.{Report, freedom_in, report_of, parcel_report}

unfoldable pub sum : List ℕ → ℕ
sum [] = 0
sum (x ∷ xs) = x + sum xs

-- "The kinds must add up to n."
abbrev pub KindsAddUp : Type 0
KindsAddUp = (memory : List ℕ) (n : ℕ) → sum (kinds_of memory n) ≡ n

-- "the distinct edges" of an accepted program are its edges as listed, since by K3 of document 02 none repeats
abbrev pub EdgesAsListed : Type 0
EdgesAsListed =
    (t : Technique) (memory : List ℕ) (n : ℕ) (edges : List ℕ) → verdict_of t memory n edges ≡ Ok tt
    → distinct_edges n edges ≡ edge_count edges

-- a freedom's two numbers fit into 32 bits each, and the second is not 0
pub record FreedomFits (edges possible : ℕ) : Type 0 where
  pub edges_fit : edges < 2 ^ 32
  pub possible_fit : possible < 2 ^ 32
  pub some_possible : 1 ≤ possible

abbrev pub Fits : Report → Type 0
Fits r = (edges possible : ℕ) → freedom_in r ≡ Some (freedom edges possible) → FreedomFits edges possible

-- so of every report, on a program or on bytes
pub record FreedomsFit : Type 0 where
  pub of_program : (t : Technique) (memory : List ℕ) (n : ℕ) (edges : List ℕ) → Fits (report_of t memory n edges)
  pub of_parcel : (t : Technique) (bytes : List ℕ) → Fits (parcel_report t bytes)
