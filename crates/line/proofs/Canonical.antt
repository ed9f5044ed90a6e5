-- Accepted parcels are canonical: accepted edges rise, edges that rise are listed in one way only, and what bytes hold is written as
-- those bytes.
use Prim.Native.Nat.{ℕ, ◌%◌}
use mathlib.Core.Path.{◌≡◌, sym, ap, ◌∙◌}
use mathlib.Core.List.{List, ◌++◌}
use native.Mathlib.Omega.{arith}
use lib.ListN.{length}
use Rattle.std.specs.Prelude.{Ok}
use Rattle.isa.specs.declared.Technique.{Technique}
use Rattle.graph.specs.Claim.{jump_of, target_of}
use Rattle.rising.specs.Rising.{Rising}
use Rattle.rising.proofs.Same.{Narrow, AllIn, same_edges}
use Rattle.checker.specs.Verdicts.{verdict_of}
use Rattle.checker.specs.Conditions.{Listed}
use Rattle.checker.proofs.Listed.{place_listed}
use Rattle.checker.proofs.Equivalence.{accepted_exactly}
use Rattle.parcel.specs.Parcel.{parcel_of}
use Rattle.parcel.proofs.WriterAnswers.{well_shaped}
use Rattle.parcel.proofs.RoundTrips.{parcel_written}
use Rattle.line.specs.Canonical.{AcceptedParcelsCanonical}

-- what is used of acceptance
record Sequence (edges : List ℕ) : Type 0 where
  pub pairs : length edges % 2 ≡ 0
  pub narrow : Narrow edges
  pub rises : Rising edges

sequence : (t : Technique) (memory : List ℕ) (n : ℕ) (edges : List ℕ) → verdict_of t memory n edges ≡ Ok tt → Sequence edges
sequence t memory n edges e =
    let c = accepted_exactly.sound t memory n edges e in
    let shape = well_shaped (length memory) n (length edges) c.shape in
    record {
      pairs = shape.even;
      narrow = λ k l.
          omega (arith, shape.code_limit, c.graph.edges_end_in_code (jump_of edges k) (target_of edges k) (place_listed edges k l));
      rises = c.edges_rise;
    }

all_in : (edges edges' : List ℕ) → ((j a : ℕ) → Listed edges j a → Listed edges' j a) → AllIn edges edges'
all_in edges edges' to k l =
    let m = to (jump_of edges k) (target_of edges k) (place_listed edges k l) in (m.place, m.within, m.jump, m.target)

pub accepted_parcels_canonical : AcceptedParcelsCanonical
accepted_parcels_canonical w t t' bytes bytes' code edges edges' words p p' g =
    let q = sequence t (code ++ words) (length code) edges p.accepted in
    let q' = sequence t' (code ++ words) (length code) edges' p'.accepted in
    let same : edges ≡ edges' =
    same_edges edges edges' q.pairs q'.pairs q.narrow q'.narrow q.rises q'.rises (all_in edges edges' g.there) (all_in edges' edges g.back) in
    sym (parcel_written w bytes p.are_bytes p.read) ∙ ap (λ (e : List ℕ). parcel_of w code e words) same
    ∙ parcel_written w bytes' p'.are_bytes p'.read
