-- Bare code that no rule turns away can be rewritten: each test as the fact that it tests.
use Prim.Native.Nat.{ℕ, ◌≤◌}
use mathlib.Core.Path.{◌≡◌, sym, ap, ◌∙◌}
use mathlib.Core.List.{List}
use native.Mathlib.Omega.{arith}
use lib.ListN.{length}
use borrow.Author.Tests.{leb-false, ltb-false}
use Rattle.lists.proofs.Bools.{and_right, or_left, true_false, clash}
use Rattle.std.specs.Prelude.{Ok}
use Rattle.answers.specs.Shape.{memory_shaped}
use Rattle.isa.specs.declared.Kind.{Kind}
use Rattle.isa.specs.declared.Technique.{Technique}
use Rattle.isa.specs.Instructions.{is_kind}
use Rattle.rising.proofs.Rising.{clean_rising}
use Rattle.checker.proofs.Faultless.{claim_passed}
use Rattle.checker.proofs.Equivalence.{claim_graph}
use Rattle.guarded.specs.Rewrite.{new_length}
use Rattle.guarded.specs.Rules.{outside, word_rules, length_rule, bare_verdict_of}
use Rattle.guarded.specs.Theorems.{Rewritable}

pub may_rewrite : (memory : List ℕ) (n : ℕ) (edges : List ℕ) (D : ℕ) → bare_verdict_of Technique.Plain memory n edges ≡ Ok tt
    → D ≤ 2048 → Rewritable Technique.Plain memory n edges D
unfolding bare_verdict_of
may_rewrite memory n edges D e d =
    let p = claim_passed memory n edges (word_rules memory n (length_rule Technique.Plain memory n edges)) e in
    record {
      edges_shaped = and_right (memory_shaped (length memory) n) _ p.0.shape;
      data_limit = d;
      graph = claim_graph memory n edges p.0 Technique.Plain;
      edges_rise = clean_rising edges p.0.edges_rise;
      no_label = λ a w h q. true_false (ap (is_kind Kind.Label) q) (or_left _ _ (p.1.0 a h));
      data_for_stores = λ a h q. clash (cc);
      branches_within = λ a w h q. leb-false n w (ap (outside n) (sym q) ∙ p.1.1.0 a h);
      length_limit = ltb-false 2048 (new_length Technique.Plain memory n edges) (p.1.1.1.0 0 (omega arith));
    }
