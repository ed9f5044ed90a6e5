-- Rule 12: where every edge's target is owned by its jump's ID, the owner of an address says which label it must hold.
use Prim.Native.Nat.{ℕ, ◌<◌}
use mathlib.Core.Path.{◌≡◌, refl, sym, ap, ◌∙◌}
use mathlib.Core.Bool.{Bool, true, false, cond, not, ◌&&◌, ◌||◌, or-false}
use Rattle.std.specs.Prelude.{Option, None, Some}
use Rattle.std.specs.Option.{option_eq}
use mathlib.Core.List.{List}
use borrow.Author.Tests.{eqb-true}
use lib.Dec.{eqb, ltb}
use lib.ListN.{get_or}
use Rattle.lists.specs.Search.{any}
use Rattle.lists.proofs.Bools.{and_under}
use Rattle.lists.proofs.Search.{any_ext, any_and}
use Rattle.isa.specs.Instructions.{instr_at, label_number}
use Rattle.graph.specs.Claim.{edge_count, jump_of, target_of, is_destination, id_of}
use Rattle.graph.specs.Rules.{is_label, is_label_of, label_wrong}
use Rattle.graph.specs.Passes.{Owned, owner_of}
use Rattle.graph.proofs.Owners.{destined}

module _ (memory : List ℕ) (n : ℕ) (edges own : List ℕ) (h : Owned edges n own) where
  abbrev m : ℕ
  m = edge_count edges

  -- the test of an edge that ends at a, by a's owner
  wrong_edge : (a : ℕ) (label : Option ℕ)
      → any (λ k. eqb (target_of edges k) a && not (is_label_of label (id_of edges n (jump_of edges k)))) m
      ≡ any (λ k. eqb (target_of edges k) a && not (is_label_of label (get_or own a 0))) m
  wrong_edge a label =
      any_ext _ _ m
      (λ k l.
      and_under (eqb (target_of edges k) a) _ _
      (λ e.
      ap (λ (x : ℕ). not (is_label_of label x))
      (sym (h.held k l) ∙ ap (λ (x : ℕ). get_or own x 0) (eqb-true (target_of edges k) a e))))

  by_owner : (label : Option ℕ) (owned : Bool) (o : ℕ)
      → not (option_eq eqb label (cond owned (Some o) None)) ≡ ((owned && not (is_label_of label o)) || (is_label label && not owned))
  by_owner None true o = refl
  by_owner None false o = refl
  by_owner (Some w) true o = sym (or-false (not (eqb w o)))
  by_owner (Some w) false o = refl

  pub label_wrong_lem : (a : ℕ) → a < n
      → not (option_eq eqb (label_number (instr_at memory a)) (owner_of n own a)) ≡ label_wrong memory n edges a
  unfolding is_destination
  label_wrong_lem a l =
      let label = label_number (instr_at memory a) in
      rw (wrong_edge a label, any_and (λ k. eqb (target_of edges k) a) (not (is_label_of label (get_or own a 0))) m)
      (by_owner label (ltb (get_or own a 0) n) (get_or own a 0)
      ∙ ap (λ (d : Bool). (d && not (is_label_of label (get_or own a 0))) || (is_label label && not d)) (destined edges n own h a l))
