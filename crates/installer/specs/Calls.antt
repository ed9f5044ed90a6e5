-- The call that puts guards in (document 02, K7).
use Rattle.std.specs.Prelude.{ℕ, ◌≡◌, Bool, ◌||◌, List, [], ◌∷◌, Ok, Err}
use Rattle.lists.specs.Places.{shorter, put_over}
use Rattle.answers.specs.declared.Place.{Place}
use Rattle.isa.specs.declared.Technique.{Technique}
use Rattle.guarded.specs.Rewrite.{Guarded}
use Rattle.guarded.specs.Rules.{bare_verdict_of}
use Rattle.rewrite.specs.Answers.{Answer, places_short, answer_of, after_rewrite, plain_of}
use Rattle.capi.specs.Checks.{answer_number, answer_place, place_after}

-- 0 where the guarded code is put
abbrev pub rewritten_number : Answer → ℕ
rewritten_number answer = answer_number answer

abbrev pub rewritten_place : Answer → Place
rewritten_place answer = answer_place answer

-- the new n and the number of edge numbers
abbrev pub counts_after : Answer → List ℕ → List ℕ
counts_after (Ok made) counts = put_over (made.code ∷ made.edges ∷ []) counts
counts_after (Err _) counts = counts

-- 5: the places for the counts and for the place of a refusal are lent places as the others are
abbrev pub lent_short : Guarded → List ℕ → List ℕ → List ℕ → List ℕ → List ℕ → Bool
lent_short new code edges entries counts place = (shorter place 2 || shorter counts 2) || places_short new code edges entries

-- what is answered where `short` tells whether a lent place is too short
abbrev pub rewrite_call : List ℕ → ℕ → List ℕ → Bool → Answer
rewrite_call memory n edges short = answer_of short (bare_verdict_of Technique.Plain memory n edges) (plain_of memory n edges)

-- the five places that a call leaves whose answer is `answer`
pub record Leaves (answer : Answer) (new : Guarded) (code edges entries counts place code' edges' entries' counts' place' : List ℕ) : Type 0 where
  pub code_after : code' ≡ after_rewrite answer new.code code
  pub edges_after : edges' ≡ after_rewrite answer new.edges edges
  pub entries_after : entries' ≡ after_rewrite answer new.entries entries
  pub counts_after : counts' ≡ counts_after answer counts
  -- the place of a refusal is put where there is room for it
  pub place_after : place' ≡ place_after (rewritten_place answer) place

-- the contract of `pg_rewrite`: its answer r, and the five places that it leaves
pub record RewriteCall (memory : List ℕ) (n : ℕ) (edges code new_edges entries counts place : List ℕ) (r : ℕ) (code' new_edges' entries' counts' place' : List ℕ) : Type 0 where
  pub answer : r ≡ rewritten_number (rewrite_call memory n edges (lent_short (plain_of memory n edges) code new_edges entries counts place))
  pub leaves :
      Leaves (rewrite_call memory n edges (lent_short (plain_of memory n edges) code new_edges entries counts place)) (plain_of memory n edges) code new_edges
      entries counts place code' new_edges' entries' counts' place'
