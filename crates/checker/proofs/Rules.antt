-- A rule with a fault gives the verdict, and one without leaves it to the next.
use Prim.Native.Nat.{ℕ, ◌/◌, ◌%◌, ◌<◌, ◌≤◌}
use mathlib.Core.Path.{◌≡◌, refl, ◌∙◌}
use mathlib.Core.Bool.{Bool, true, false, cond}
use mathlib.Core.List.{List, [], ◌∷◌, ◌++◌}
use native.Mathlib.Omega.{arith}
use borrow.Author.Tests.{lt-ltb, le-ltb, leb-true}
use lib.Dec.{leb, ltb, eqb}
use lib.ListN.{length}
use Rattle.lists.proofs.Bools.{and_left, and_right, clash}
use Rattle.lists.specs.Search.{lowest, first}
use Rattle.lists.proofs.First.{first_lowest, first_clean}
use Rattle.lists.proofs.Search.{lowest_at, lowest_none, clean_none}
use Rattle.checker.specs.Passes.{Claimed, unless_some}
use Rattle.std.specs.Prelude.{Option, None, Some, Ok, Err, option_map}
use Rattle.std.specs.Result.{result_and}
use Rattle.answers.specs.Faults.{fault, Verdict, refusal_at}
use Rattle.answers.specs.declared.Refusal.{Refusal}
use Rattle.answers.specs.declared.Place.{Place}
use Rattle.answers.specs.Shape.{memory_shaped, edges_shaped, call_shaped}
use Rattle.answers.proofs.Shape.{shaped}
use Rattle.isa.specs.declared.Technique.{Technique}
use Rattle.graph.specs.Claim.{edge_count}
use Rattle.graph.specs.Rules.{starts_at_no_jump, ends_outside_code}
use Rattle.graph.specs.Passes.{Sized}
use Rattle.graph.proofs.Edges.{within_of}
use Rattle.rising.specs.Rising.{not_rising}
use Rattle.checker.specs.Verdicts.{Rule, rule_once, first_broken, verdict_of, claim_verdict_of}
use Rattle.checker.specs.Steps.{to_claim, to_graph, from_sets, from_labels}

module _ (rule : Rule) (rules : List Rule) (k : ℕ) (e : k ≡ lowest rule.faulty rule.places) where
  pub broken : k < rule.places → first_broken (rule ∷ rules) ≡ Err (fault rule.refusal (rule.called k))
  unfolding first_broken
  broken l = rw (← e, lt-ltb k rule.places l)

  pub kept : rule.places ≤ k → first_broken (rule ∷ rules) ≡ first_broken rules
  unfolding first_broken
  kept l = rw (← e, le-ltb k rule.places l)

pub no_rule : first_broken [] ≡ Ok tt
unfolding first_broken
no_rule = refl

-- a rule of one place
module _ (refusal : Refusal) (faulty : Bool) (place : Place) (rules : List Rule) where
  pub broken_once : faulty ≡ true → first_broken (rule_once refusal faulty place ∷ rules) ≡ Err (fault refusal place)
  broken_once e = broken (rule_once refusal faulty place) rules 0 (lowest_at (λ _. faulty) 1 0 (omega arith) (clean_none _) e) (omega arith)

  pub kept_once : faulty ≡ false → first_broken (rule_once refusal faulty place ∷ rules) ≡ first_broken rules
  kept_once e = kept (rule_once refusal faulty place) rules 1 (lowest_none (λ _. faulty) 1 1 refl (λ k l. e)) (omega arith)

-- a rule and those after it, as `refuse_at` and `?` ask them
pub broken_next : (rule : Rule) (rules : List Rule)
    → first_broken (rule ∷ rules)
    ≡ result_and (refusal_at rule.refusal (option_map rule.called (first rule.faulty rule.places))) (first_broken rules)
unfolding first_broken
broken_next rule rules =
    rw (first_lowest rule.faulty rule.places) (go (ltb (lowest rule.faulty rule.places) rule.places))
  where
    go : (b : Bool) → cond b (Err (fault rule.refusal (rule.called (lowest rule.faulty rule.places)))) (first_broken rules)
        ≡ result_and (refusal_at rule.refusal (option_map rule.called (cond b (Some (lowest rule.faulty rule.places)) None))) (first_broken rules)
    go true = refl
    go false = refl

-- the last rule
pub broken_last : (rule : Rule) → first_broken (rule ∷ []) ≡ refusal_at rule.refusal (option_map rule.called (first rule.faulty rule.places))
unfolding first_broken
broken_last rule = broken_next rule [] ∙ go (refusal_at rule.refusal (option_map rule.called (first rule.faulty rule.places)))
  where
    go : (v : Verdict) → result_and v (Ok tt) ≡ v
    go (Ok _) = refl
    go (Err f) = refl

-- rules after rules: the first list decides where it refuses
pub broken_append : (xs ys : List Rule) → first_broken (xs ++ ys) ≡ result_and (first_broken xs) (first_broken ys)
unfolding first_broken
broken_append [] ys = refl
broken_append (rule ∷ xs) ys = go (ltb (lowest rule.faulty rule.places) rule.places) (broken_append xs ys)
  where
    go : (b : Bool) → first_broken (xs ++ ys) ≡ result_and (first_broken xs) (first_broken ys)
        → cond b (Err (fault rule.refusal (rule.called (lowest rule.faulty rule.places)))) (first_broken (xs ++ ys))
        ≡ result_and (cond b (Err (fault rule.refusal (rule.called (lowest rule.faulty rule.places)))) (first_broken xs)) (first_broken ys)
    go true e = refl
    go false e = e

-- the verdict by the parts of the rules
pub verdict_by : (t : Technique) (memory : List ℕ) (n : ℕ) (edges : List ℕ)
    → verdict_of t memory n edges ≡ result_and (first_broken (to_claim memory n edges)) (first_broken (from_sets t memory n edges))
unfolding verdict_of from_sets
verdict_by t memory n edges = broken_append (to_claim memory n edges) (to_graph memory n edges ++ from_labels t memory n edges)

pub sets_by : (t : Technique) (memory : List ℕ) (n : ℕ) (edges : List ℕ)
    → first_broken (from_sets t memory n edges) ≡ result_and (first_broken (to_graph memory n edges)) (first_broken (from_labels t memory n edges))
unfolding from_sets
sets_by t memory n edges = broken_append (to_graph memory n edges) (from_labels t memory n edges)

pub claim_verdict_by : (memory : List ℕ) (n : ℕ) (edges : List ℕ)
    → claim_verdict_of memory n edges ≡ result_and (first_broken (to_claim memory n edges)) (first_broken (to_graph memory n edges))
unfolding claim_verdict_of
claim_verdict_by memory n edges = broken_append (to_claim memory n edges) (to_graph memory n edges)

-- a count that was told, and no place
pub unless_ok : {many j : ℕ} {o : Option ℕ} → unless_some many o ≡ Ok j → (None ≡ o) × (j ≡ many)
unless_ok {o = None} e = (refl, cc)
unless_ok {o = Some a} e = clash (cc)

-- what number 6 leaves
pub sized : (memory : List ℕ) (n : ℕ) → memory_shaped (length memory) n ≡ true → Sized memory n
sized memory n e =
    let s = shaped (length memory) n e in
    let w = s.within in
    let d = s.data_limit in
    record { some_code = s.some_code; code_limit = s.code_limit; code_within = w; whole_limit = let z = s.code_limit in omega arith }

pub few_edges : (count : ℕ) → edges_shaped count ≡ true → count / 2 ≤ 2048
few_edges count e = let l = leb-true count 4096 (and_right (eqb (count % 2) 0) (leb count 4096) e) in omega arith

-- what 6, 7, 8 and 18 leave
pub claimed_by : (memory : List ℕ) (n : ℕ) (edges : List ℕ) → call_shaped (length memory) n (length edges) ≡ true
    → None ≡ first (starts_at_no_jump memory n edges) (edge_count edges) → None ≡ first (ends_outside_code n edges) (edge_count edges)
    → None ≡ first (not_rising edges) (edge_count edges) → Claimed memory n edges
claimed_by memory n edges s e7 e8 e18 =
    let z = sized memory n (and_left (memory_shaped (length memory) n) (edges_shaped (length edges)) s) in
    let f = few_edges (length edges) (and_right (memory_shaped (length memory) n) (edges_shaped (length edges)) s) in
    record {
      sized = z;
      within = within_of memory edges n z.code_limit f (first_clean _ _ e7) (first_clean _ _ e8);
      from_jumps = first_clean _ _ e7;
      rising = first_clean _ _ e18;
    }
