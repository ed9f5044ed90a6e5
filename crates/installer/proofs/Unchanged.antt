-- A refused rewriting changes nothing: by cases of the answer.
use Prim.Native.Nat.{ℕ}
use mathlib.Core.Path.{◌≡◌, refl, ◌∙◌}
use mathlib.Core.List.{List}
use Rattle.guarded.specs.Rewrite.{Guarded}
use Rattle.std.specs.Prelude.{Ok, Err}
use Rattle.rewrite.specs.Answers.{Answer, plain_of}
use Rattle.installer.specs.Calls.{rewritten_number, lent_short, rewrite_call, Leaves}
use Rattle.installer.specs.Theorems.{RefusedRewritingChangesNothing}

unchanged : (answer : Answer) (new : Guarded) (code edges entries counts place code' edges' entries' counts' place' : List ℕ)
    → Leaves answer new code edges entries counts place code' edges' entries' counts' place' → (rewritten_number answer ≡ 0 → ⊥)
    → (code' ≡ code) × (edges' ≡ edges) × (entries' ≡ entries) × (counts' ≡ counts)
unchanged (Ok _) new code edges entries counts place code' edges' entries' counts' place' l h = absurd (h refl)
unchanged (Err _) new code edges entries counts place code' edges' entries' counts' place' l h =
    (l.code_after, l.edges_after, l.entries_after, l.counts_after)

pub refused_rewriting_changes_nothing : RefusedRewritingChangesNothing
refused_rewriting_changes_nothing =
    record {
      rewrite = λ memory n edges code new_edges entries counts place r code' new_edges' entries' counts' place' c h.
          unchanged (rewrite_call memory n edges (lent_short (plain_of memory n edges) code new_edges entries counts place)) _ _ _ _ _ _ _ _ _ _ _ c.leaves
          (λ e. h (c.answer ∙ e));
    }
