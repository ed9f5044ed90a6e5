-- What the search needs of a program follows from the checker's acceptance.
use Prim.Native.Nat.{ℕ}
use mathlib.Core.Path.{◌≡◌}
use mathlib.Core.List.{List}
use lib.ListN.{length}
use borrow.Author.Tests.{not-false}
use Rattle.std.specs.Prelude.{Ok}
use Rattle.lists.proofs.Bools.{and_left, and_right, and_rest}
use Rattle.answers.specs.Shape.{memory_shaped, edges_shaped}
use Rattle.isa.specs.declared.Technique.{Technique}
use Rattle.graph.proofs.Edges.{within_of}
use Rattle.checker.specs.Verdicts.{verdict_of}
use Rattle.checker.proofs.Rules.{sized, few_edges}
use Rattle.checker.proofs.Faultless.{accepted_faultless}
use Rattle.paths.specs.Given.{Searchable}

pub searchable : (t : Technique) (memory : List ℕ) (n : ℕ) (edges : List ℕ) → verdict_of t memory n edges ≡ Ok tt → Searchable memory n edges
searchable t memory n edges e =
    let claim = (accepted_faultless t memory n edges e).claim in
    let s = sized memory n (and_left (memory_shaped (length memory) n) (edges_shaped (length edges)) claim.shape) in
    let few = few_edges (length edges) (and_right (memory_shaped (length memory) n) (edges_shaped (length edges)) claim.shape) in
    record {
      sized = s;
      within = within_of memory edges n s.code_limit few claim.edges_start claim.edges_end;
      rising = claim.edges_rise;
      leaving = λ a l j. not-false _ (and_rest _ _ j (claim.jumps_leave a l));
    }
