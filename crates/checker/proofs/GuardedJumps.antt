-- Rule 14 by the edges: where every jmp of the code has an edge and every edge starts at one, the first edge whose jmp lacks its
-- sequence starts at the lowest such jmp.
use Prim.Native.Nat.{ℕ, zero, suc, ◌-◌, ◌<◌, ◌≤◌}
use mathlib.Core.Path.{◌≡◌, refl, sym, ap, ◌∙◌}
use mathlib.Core.Bool.{true, false, not}
use mathlib.Core.List.{List}
use native.Mathlib.Omega.{arith}
use native.Mathlib.Decide.{ℕ_discrete}
use lib.Dec.{leb}
use borrow.Author.Tests.{not-false, ne_eqb}
use Rattle.std.specs.Prelude.{Option, None, Some, option_map}
use Rattle.lists.proofs.Bools.{and_left, and_right, and_rest, or_right, true_false, refuted}
use Rattle.lists.specs.Search.{first}
use Rattle.lists.proofs.First.{first_at, first_none, first_found, first_clean}
use Rattle.lists.proofs.Search.{Clean, lowest_is}
use Rattle.isa.specs.declared.Technique.{Technique}
use Rattle.isa.specs.Instructions.{instr_at, is_jump}
use Rattle.rising.specs.Rising.{Rising}
use Rattle.rising.proofs.Rising.{clean_rising}
use Rattle.graph.specs.Claim.{edge_count, jump_of, target_of, has_edge}
use Rattle.guards.specs.Sequences.{jump_guard, ends_at}
use Rattle.guards.specs.Rules.{jump_unguarded}
use Rattle.checker.specs.Passes.{Claimed, Leaving, is_first, starts_bare}
use Rattle.checker.specs.Conditions.{Listed}
use Rattle.checker.proofs.Listed.{has_listed}
use Rattle.checker.proofs.Runs.{Cut, first_cut, lower_before, first_target}

module _ (t : Technique) (memory : List ℕ) (n : ℕ) (edges : List ℕ) (claim : Claimed memory n edges) where
  rises : Rising edges
  rises = clean_rising edges claim.rising

  bare_is : (k : ℕ) → Cut edges (jump_of edges k) k → k < edge_count edges
      → jump_unguarded t memory n edges (jump_of edges k) ≡ not (ends_at memory (jump_guard t n (target_of edges k)) (jump_of edges k))
  bare_is k c l =
      let jump : is_jump (instr_at memory (jump_of edges k)) ≡ true =
      not-false _ (or_right (leb n (jump_of edges k)) _ (claim.from_jumps k l)) in
      rw (jump, ← first_target edges rises n claim.within k c l)

  -- each edge has the first one of its jump before it, or is it
  first_of : (i : ℕ) → (k : ℕ) × (k ≤ i) × (jump_of edges k ≡ jump_of edges i) × (is_first edges k ≡ true)
  first_of zero = (0, omega arith, refl, refl)
  first_of (suc i) = go (first_of i) (ℕ_discrete (jump_of edges (suc i - 1)) (jump_of edges (suc i)))
    where
      at : i ≡ suc i - 1
      at = omega arith

      go : ((k : ℕ) × (k ≤ i) × (jump_of edges k ≡ jump_of edges i) × (is_first edges k ≡ true))
          → Dec (jump_of edges (suc i - 1) ≡ jump_of edges (suc i))
          → (k : ℕ) × (k ≤ suc i) × (jump_of edges k ≡ jump_of edges (suc i)) × (is_first edges k ≡ true)
      go r (yes z) = (r.0, omega (arith, r.1), r.2 ∙ ap (jump_of edges) at ∙ z, r.3)
      go r (no ne) = (suc i, omega arith, refl, rw (ne_eqb (suc i) 0 (λ x. omega (arith, x)), ne_eqb (jump_of edges (suc i - 1)) (jump_of edges (suc i)) ne))

  module _ (leaving : Leaving memory n edges) where
    -- a jmp without its sequence has an edge
    bare_listed : (a : ℕ) → a < n → jump_unguarded t memory n edges a ≡ true → (target : ℕ) × Listed edges a target
    bare_listed a l e =
        has_listed edges a (not-false _ (and_rest (is_jump (instr_at memory a)) (not (has_edge edges a)) (and_left _ _ e) (leaving a l)))

    -- so an address is not faulty where each edge that starts there tells so
    none_among : (a : ℕ) → a < n → ((i : ℕ) → i < edge_count edges → jump_of edges i ≡ a → jump_unguarded t memory n edges (jump_of edges i) ≡ false)
        → jump_unguarded t memory n edges a ≡ false
    none_among a l none = refuted _ λ b.
        let v = (bare_listed a l b).1 in
        true_false b (rw (← v.jump) (none v.place v.within v.jump))

    -- an edge whose jump is not faulty where no first edge up to it starts bare
    fine : (m : ℕ) → Clean (starts_bare t memory n edges) m → (i : ℕ) → i < m → i < edge_count edges → jump_unguarded t memory n edges (jump_of edges i) ≡ false
    fine m c i q l =
        let v = first_of i in
        let k : v.0 < edge_count edges = omega (arith, v.1) in
        ap (jump_unguarded t memory n edges) (sym v.2)
        ∙ bare_is v.0 (first_cut edges rises v.0 k v.3) k
        ∙ and_rest (is_first edges v.0) _ v.3 (c v.0 (omega (arith, v.1)))

    pub bare_found : first (jump_unguarded t memory n edges) n ≡ option_map (jump_of edges) (first (starts_bare t memory n edges) (edge_count edges))
    bare_found = go (first (starts_bare t memory n edges) (edge_count edges)) refl
      where
        go : (o : Option ℕ) → o ≡ first (starts_bare t memory n edges) (edge_count edges) → first (jump_unguarded t memory n edges) n ≡ option_map (jump_of edges) o
        go None e =
            let c = first_clean (starts_bare t memory n edges) (edge_count edges) e in
            sym (first_none (jump_unguarded t memory n edges) n (λ a q. none_among a q (λ i h z. fine (edge_count edges) c i h h)))
        go (Some k) e =
            let test = starts_bare t memory n edges in
            let f = first_found test (edge_count edges) k e in
            let is = and_left (is_first edges k) _ f.2 in
            let clean : Clean test k = λ i q. (lowest_is test (edge_count edges)).clean i (omega (arith, f.1)) in
            sym (first_at (jump_unguarded t memory n edges) n (jump_of edges k) (claim.within.jumps k f.0)
            (λ a q. none_among a (omega (arith, q, claim.within.jumps k f.0))
            (λ i h z. fine k clean i (lower_before edges rises i k h (omega (arith, z, q))) h))
            (bare_is k (first_cut edges rises k f.0 is) f.0 ∙ and_right (is_first edges k) _ f.2))
