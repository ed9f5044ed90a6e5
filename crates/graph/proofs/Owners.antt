-- Owners: an address is a destination exactly where the ID of a set owns it.
use Prim.Native.Nat.{ℕ, ◌<◌}
use mathlib.Core.Path.{◌≡◌, refl, sym, ap, ◌∙◌}
use mathlib.Core.Bool.{Bool, true, false}
use mathlib.Core.List.{List}
use native.Mathlib.Omega.{arith}
use borrow.Author.Tests.{eqb-true, le-ltb, lt-ltb}
use lib.Dec.{eqb, ltb}
use lib.ListN.{get_or}
use Rattle.lists.proofs.Search.{any_witness}
use Rattle.graph.specs.Claim.{edge_count, jump_of, target_of, is_destination}
use Rattle.graph.specs.Passes.{Owned}
use Rattle.graph.proofs.Edges.{edge_at, id_below, has_edge_lem}

pub destined : (edges : List ℕ) (n : ℕ) (own : List ℕ) → Owned edges n own → (a : ℕ) → a < n → ltb (get_or own a 0) n ≡ is_destination edges a
unfolding is_destination
destined edges n own h a l = go (is_destination edges a) refl
  where
    go : (d : Bool) → is_destination edges a ≡ d → ltb (get_or own a 0) n ≡ is_destination edges a
    go true e =
        let k = any_witness (λ k. eqb (target_of edges k) a) (edge_count edges) e in
        let here = ap (λ (x : ℕ). get_or own x 0) (eqb-true (target_of edges k.0) a k.2) in
        let edge = edge_at edges n k.0 k.1 in
        let b = id_below edges n h.within (jump_of edges k.0) (has_edge_lem edges n (jump_of edges k.0) (target_of edges k.0) edge) in
        lt-ltb (get_or own a 0) n (omega (arith, here, h.held k.0 k.1, b)) ∙ sym e
    go false e = le-ltb (get_or own a 0) n (omega (arith, h.free a l e)) ∙ sym e
