-- The rules of `Verdicts.antt` in three parts: 6, 7, 8 and 18; 9 and 10; and the rest. The private steps of `check` and `check_claim`
-- answer them one after the other.
use Rattle.std.specs.Prelude.{ℕ, List, [], ◌++◌, take, drop}
use Rattle.isa.specs.declared.Technique.{Technique}
use Rattle.checker.specs.Verdicts.{Rule, claim_rules, label_rules, guard_rules}

-- those that make a claim, 6, 7, 8 and 18
abbrev pub to_claim : List ℕ → ℕ → List ℕ → List Rule
to_claim memory n edges = take 4 (claim_rules memory n edges [])

-- those that make a graph of it, 9 and 10
abbrev pub to_graph : List ℕ → ℕ → List ℕ → List Rule
to_graph memory n edges = drop 4 (claim_rules memory n edges [])

-- the rest
abbrev pub from_labels : Technique → List ℕ → ℕ → List ℕ → List Rule
from_labels t memory n edges = label_rules memory n edges (guard_rules t memory n edges)

-- those that make a graph, and the rest
unfoldable pub from_sets : Technique → List ℕ → ℕ → List ℕ → List Rule
from_sets t memory n edges = to_graph memory n edges ++ from_labels t memory n edges
