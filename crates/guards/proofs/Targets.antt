-- Rule 15's test of a target as a fact: in code, and no inner word of any guard. By the searches of the rule, both ways.
use Prim.Native.Nat.{ℕ, ◌<◌}
use mathlib.Core.Path.{◌≡◌, refl}
use mathlib.Core.Bool.{Bool, false}
use mathlib.Core.List.{List}
use lib.Dec.{leb}
use lib.ListN.{length}
use borrow.Author.Tests.{leb-false, lt-leb}
use Rattle.lists.proofs.Bools.{clash, or_left, or_right}
use Rattle.lists.proofs.Search.{Clean, any_none, any_clean}
use Rattle.isa.specs.declared.Technique.{Technique}
use Rattle.graph.specs.Claim.{id_of}
use Rattle.guards.specs.Sequences.{jump_guard, store_guard}
use Rattle.guards.specs.Rules.{inside_ending, inside_jump_guard, inside_store_guard, inside_guard, target_wrong}

pub record TargetRight (t : Technique) (memory : List ℕ) (n : ℕ) (edges : List ℕ) (w : ℕ) : Type 0 where
  pub in_code : w < n
  pub outside_jumps : (a : ℕ) → a < n → inside_ending memory (jump_guard t n (id_of edges n a)) w a ≡ false
  pub outside_stores : t ≡ Technique.MemoryGuards → (a : ℕ) → a < n → inside_ending memory (store_guard n (length memory)) w a ≡ false

module _ (memory : List ℕ) (n : ℕ) (edges : List ℕ) (w : ℕ) where
  abbrev in_jump : Technique → ℕ → Bool
  in_jump t a = inside_ending memory (jump_guard t n (id_of edges n a)) w a

  abbrev in_store : ℕ → Bool
  in_store a = inside_ending memory (store_guard n (length memory)) w a

  out_of_jumps : (t : Technique) → inside_guard t memory n edges w ≡ false → Clean (in_jump t) n
  unfolding inside_jump_guard
  out_of_jumps Technique.Plain e = any_none (in_jump Technique.Plain) n e
  out_of_jumps Technique.MemoryGuards e = any_none (in_jump Technique.MemoryGuards) n (or_right (inside_store_guard memory n w) _ e)

  out_of_stores : (t : Technique) → inside_guard t memory n edges w ≡ false → t ≡ Technique.MemoryGuards → Clean in_store n
  unfolding inside_store_guard
  out_of_stores Technique.Plain e u = clash (cc)
  out_of_stores Technique.MemoryGuards e u = any_none in_store n (or_left _ _ e)

  in-no-guard : (t : Technique) → Clean (in_jump t) n → (t ≡ Technique.MemoryGuards → Clean in_store n)
      → inside_guard t memory n edges w ≡ false
  unfolding inside_jump_guard inside_store_guard
  in-no-guard Technique.Plain jumps stores = any_clean (in_jump Technique.Plain) n jumps
  in-no-guard Technique.MemoryGuards jumps stores =
      rw (any_clean in_store n (stores refl)) (any_clean (in_jump Technique.MemoryGuards) n jumps)

  pub target_right : (t : Technique) → target_wrong t memory n edges w ≡ false → TargetRight t memory n edges w
  target_right t e =
      record {
        in_code = leb-false n w (or_left _ _ e);
        outside_jumps = out_of_jumps t (or_right (leb n w) _ e);
        outside_stores = out_of_stores t (or_right (leb n w) _ e);
      }

  pub right_target : (t : Technique) → TargetRight t memory n edges w → target_wrong t memory n edges w ≡ false
  right_target t r = rw (lt-leb n w r.in_code) (in-no-guard t r.outside_jumps r.outside_stores)
