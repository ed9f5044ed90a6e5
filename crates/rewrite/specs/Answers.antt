-- What `rewrite` answers, and what it leaves in the three lent places (document 02, K7).
use Rattle.std.specs.Prelude.{ℕ, ◌-◌, ◌≡◌, Bool, cond, ◌||◌, List, length, Result, Ok, Err}
use Rattle.lists.specs.Places.{shorter, put_over}
use Rattle.answers.specs.declared.Refusal.{Refusal}
use Rattle.answers.specs.declared.Place.{Place}
use Rattle.answers.specs.declared.Fault.{Fault}
use Rattle.answers.specs.Faults.{fault, Verdict}
use Rattle.isa.specs.declared.Technique.{Technique}
use Rattle.guarded.specs.Rewrite.{Guarded, rewrite_of}
use Rattle.guarded.specs.Rules.{bare_verdict_of}
use Rattle.rewrite.specs.declared.Rewritten.{Rewritten}

-- "last 5, for a lent place shorter than its result"
abbrev pub places_short : Guarded → List ℕ → List ℕ → List ℕ → Bool
places_short new code edges entries =
    shorter code (length new.code) || (shorter edges (length new.edges) || shorter entries (length new.entries))

-- what `rewrite` answers
abbrev pub Answer : Type 0
Answer = Result Rewritten Fault

-- the new n and the number of edge numbers, or why the bare code is turned away
abbrev pub answer_of : Bool → Verdict → Guarded → Answer
answer_of short (Ok _) new =
    cond short (Err (fault Refusal.PlaceTooShort Place.Nowhere)) (Ok (record { code = length new.code; edges = length new.edges }))
answer_of short (Err f) new = Err f

-- what a lent place holds afterwards: "Each leaves .. lent memory unchanged", and nothing is touched past what is put there
abbrev pub after_rewrite : Answer → List ℕ → List ℕ → List ℕ
after_rewrite (Ok _) new old = put_over new old
after_rewrite (Err _) new old = old

-- the answer to bare code with this verdict, of which `new` would come out, and the places for code, edges and map before and after
pub record Put (verdict : Verdict) (new : Guarded) (code edges entries : List ℕ) (answer : Answer) (code' edges' entries' : List ℕ) : Type 0 where
  pub answers : answer ≡ answer_of (places_short new code edges entries) verdict new
  pub code_after : code' ≡ after_rewrite answer new.code code
  pub edges_after : edges' ≡ after_rewrite answer new.edges edges
  pub entries_after : entries' ≡ after_rewrite answer new.entries entries

-- memory is n words of bare code and then the data
abbrev pub plain_of : List ℕ → ℕ → List ℕ → Guarded
plain_of memory n edges = rewrite_of Technique.Plain memory n edges (length memory - n)

abbrev pub RewrittenSo : List ℕ → ℕ → List ℕ → List ℕ → List ℕ → List ℕ → Answer → List ℕ → List ℕ → List ℕ → Type 0
RewrittenSo memory n edges code new_edges entries answer code' new_edges' entries' =
    Put (bare_verdict_of Technique.Plain memory n edges) (plain_of memory n edges) code new_edges entries answer code' new_edges' entries'
