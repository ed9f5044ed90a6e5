-- The verdict (document 01, "Numbers given, in checking order", and K3 of document 02): the first rule with a faulty place answers, at
-- its first one.
use Rattle.std.specs.Prelude.{ℕ, ◌-◌, Bool, not, cond, List, [], ◌∷◌, length, ltb, Ok, Err}
use Rattle.lists.specs.Search.{lowest}
use Rattle.answers.specs.declared.Refusal.{Refusal}
use Rattle.answers.specs.declared.Place.{Place}
use Rattle.answers.specs.Faults.{fault, Verdict}
use Rattle.answers.specs.Shape.{call_shaped}
use Rattle.isa.specs.declared.Technique.{Technique}
use Rattle.isa.specs.Instructions.{instr_at, is_illegal}
use Rattle.graph.specs.Claim.{edge_count}
use Rattle.rising.specs.Rising.{not_rising}
use Rattle.graph.specs.Rules.{starts_at_no_jump, ends_outside_code, lacks_edge, overlaps, label_wrong}
use Rattle.guards.specs.Rules.{store_unguarded, jump_unguarded, branch_wrong}

-- a rule: what it answers, how many places it tests, which of them are faulty, and what a place is called
pub record Rule : Type 0 where
  pub refusal : Refusal
  pub places : ℕ
  pub faulty : ℕ → Bool
  pub called : ℕ → Place

abbrev pub rule_once : Refusal → Bool → Place → Rule
rule_once refusal broken place = record { refusal = refusal; places = 1; faulty = λ _. broken; called = λ _. place }

abbrev pub rule_per_edge : Refusal → List ℕ → (ℕ → Bool) → Rule
rule_per_edge refusal edges faulty =
    record { refusal = refusal; places = edge_count edges; faulty = faulty; called = λ k. Place.Edge k }

abbrev pub rule_per_address : Refusal → ℕ → (ℕ → Bool) → Rule
rule_per_address refusal n faulty = record { refusal = refusal; places = n; faulty = faulty; called = λ a. Place.Address a }

-- "From 7 on, a number is tested over all edges or addresses before the next."
unfoldable pub first_broken : List Rule → Verdict
first_broken [] = Ok tt
first_broken (rule ∷ rules) =
    cond (ltb (lowest rule.faulty rule.places) rule.places)
    (Err (fault rule.refusal (rule.called (lowest rule.faulty rule.places))))
    (first_broken rules)

-- rules 7 to 10, and 18 among them: "checkers test it after 8"
abbrev pub graph_rules : List ℕ → ℕ → List ℕ → List Rule → List Rule
graph_rules memory n edges rest =
    rule_per_edge Refusal.EdgeFromNoJump edges (starts_at_no_jump memory n edges)
    ∷ rule_per_edge Refusal.TargetOutsideCode edges (ends_outside_code n edges)
    ∷ rule_per_edge Refusal.EdgeNotRising edges (not_rising edges)
    ∷ rule_per_address Refusal.JumpWithoutEdge n (lacks_edge memory edges)
    ∷ rule_per_address Refusal.TargetSetsOverlap n (overlaps edges n)
    ∷ rest

-- rules 11 and 12
abbrev pub label_rules : List ℕ → ℕ → List ℕ → List Rule → List Rule
label_rules memory n edges rest =
    rule_once Refusal.LastWordLegal (not (is_illegal (instr_at memory (n - 1)))) (Place.Address (n - 1))
    ∷ rule_per_address Refusal.LabelCondition n (label_wrong memory n edges)
    ∷ rest

-- rules 13 to 15
abbrev pub guard_rules : Technique → List ℕ → ℕ → List ℕ → List Rule
guard_rules t memory n edges =
    rule_per_address Refusal.StoreUnguarded n (store_unguarded t memory n)
    ∷ rule_per_address Refusal.JumpUnguarded n (jump_unguarded t memory n edges)
    ∷ rule_per_address Refusal.BranchTarget n (branch_wrong t memory n edges)
    ∷ []

-- 6 first, then 7, 8, 18, and 9 to 15
abbrev pub rules_of : Technique → List ℕ → ℕ → List ℕ → List Rule
rules_of t memory n edges =
    rule_once Refusal.Shape (not (call_shaped (length memory) n (length edges))) Place.Nowhere
    ∷ graph_rules memory n edges (label_rules memory n edges (guard_rules t memory n edges))

-- 6, 7, 8, 18, 9 and 10, which speak of the graph alone, and then the rest
abbrev pub claim_rules : List ℕ → ℕ → List ℕ → List Rule → List Rule
claim_rules memory n edges rest =
    rule_once Refusal.Shape (not (call_shaped (length memory) n (length edges))) Place.Nowhere ∷ graph_rules memory n edges rest

-- memory is n words of code and then the data; edges are the edge numbers as they are lent
unfoldable pub verdict_of : Technique → List ℕ → ℕ → List ℕ → Verdict
verdict_of t memory n edges = first_broken (rules_of t memory n edges)

-- the verdict of the rules that speak of the graph alone, whatever the code's labels and guards
unfoldable pub claim_verdict_of : List ℕ → ℕ → List ℕ → Verdict
claim_verdict_of memory n edges = first_broken (claim_rules memory n edges [])
