-- Where edges rise, the distinct edges are the edges as listed: each is one target more of its jump.
use Prim.Native.Nat.{ℕ, zero, suc, ◌+◌, ◌<◌, ◌≤◌}
use mathlib.Core.Path.{◌≡◌, sym, ap, ◌∙◌}
use mathlib.Core.List.{List}
use native.Mathlib.Omega.{arith}
use lib.Dec.{eqb}
use Rattle.lists.specs.Search.{bit}
use Rattle.lists.proofs.Counts.{count_zero}
use Rattle.graph.specs.Claim.{edge_count, jump_of, is_edge}
use Rattle.graph.specs.Passes.{Within, edge_in}
use Rattle.graph.proofs.Edges.{edge_none}
use Rattle.rising.specs.Rising.{Rising}
use Rattle.rising.proofs.Sizes.{size_in, size_more}
use Rattle.report.specs.Figures.{set_size, total, distinct_edges}
use Rattle.report.specs.Theorems.{EdgesAsListed}
use Rattle.report.proofs.Held.{held}
use Rattle.report.proofs.Sums.{total_ext, total_zero, total_add, total_one}

module _ (edges : List ℕ) (n : ℕ) (w : Within edges n) (r : Rising edges) where
  -- how many targets jump j has by the first m edges
  abbrev sized : ℕ → ℕ → ℕ
  sized m j = size_in edges n w r m j

  pairs : (m : ℕ) → m ≤ edge_count edges → total (sized m) n ≡ m
  pairs zero l = total_zero (sized 0) n (λ j q. sym (count_zero (edge_in edges 0 j) n (λ t p. edge_none edges j t)))
  pairs (suc m) l =
      let low : m < edge_count edges = omega arith in
      let next : suc m ≡ m + 1 = omega arith in
      total_ext (sized (suc m)) (λ j. bit (eqb (jump_of edges m) j) + sized m j) n
      (λ j q. ap (λ (x : ℕ). sized x j) next ∙ size_more edges n w r m j low)
      ∙ total_add (λ j. bit (eqb (jump_of edges m) j)) (sized m) n
      ∙ omega (arith, total_one (jump_of edges m) n (w.jumps m low), pairs m (omega arith))

  pub distinct_listed : distinct_edges n edges ≡ edge_count edges
  unfolding set_size is_edge edge_in
  distinct_listed = pairs (edge_count edges) (omega arith)

pub edges_as_listed : EdgesAsListed
edges_as_listed t memory n edges e = let all = held t memory n edges e in distinct_listed edges n all.within all.rises
