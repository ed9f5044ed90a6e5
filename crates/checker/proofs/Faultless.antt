-- Accepted exactly where no rule has a faulty place: down the list of rules, each a search that finds nothing.
use Prim.Native.Nat.{ℕ, ◌-◌}
use mathlib.Core.Path.{◌≡◌, refl, ap}
use mathlib.Core.Bool.{Bool, true, false, not, cond}
use mathlib.Core.List.{List, [], ◌∷◌}
use native.Mathlib.Omega.{arith}
use lib.ListN.{length}
use lib.Dec.{ltb}
use borrow.Author.Tests.{ltb-false, le-ltb, not-false}
use Rattle.lists.specs.Search.{lowest}
use Rattle.lists.proofs.Bools.{clash}
use Rattle.lists.proofs.Search.{Clean, lowest_is, lowest_none}
use Rattle.std.specs.Prelude.{Ok, Err}
use Rattle.answers.specs.Faults.{fault}
use Rattle.answers.specs.Shape.{call_shaped}
use Rattle.isa.specs.declared.Technique.{Technique}
use Rattle.isa.specs.Instructions.{instr_at, is_illegal}
use Rattle.graph.specs.Claim.{edge_count}
use Rattle.rising.specs.Rising.{not_rising}
use Rattle.graph.specs.Rules.{starts_at_no_jump, ends_outside_code, lacks_edge, overlaps, label_wrong}
use Rattle.guards.specs.Rules.{store_unguarded, jump_unguarded, branch_wrong}
use Rattle.checker.specs.Verdicts.{Rule, first_broken, label_rules, guard_rules, claim_rules, verdict_of}

abbrev pub Passed : List Rule → Type 0
Passed [] = Unit {0}
Passed (rule ∷ rules) = Clean rule.faulty rule.places × Passed rules

passed : (rules : List Rule) → first_broken rules ≡ Ok tt → Passed rules
unfolding first_broken
passed [] e = tt
passed (rule ∷ rules) e = go (ltb (lowest rule.faulty rule.places) rule.places) refl e (λ q. passed rules q)
  where
    go : (b : Bool) → ltb (lowest rule.faulty rule.places) rule.places ≡ b
        → cond b (Err (fault rule.refusal (rule.called (lowest rule.faulty rule.places)))) (first_broken rules)
        ≡ Ok tt
        → (first_broken rules ≡ Ok tt → Passed rules) → Passed (rule ∷ rules)
    go true p q ih = clash (cc)
    go false p q ih =
        let none = ltb-false (lowest rule.faulty rule.places) rule.places p in
        ((λ k h. (lowest_is rule.faulty rule.places).clean k (omega arith)), ih q)

accepts : (rules : List Rule) → Passed rules → first_broken rules ≡ Ok tt
unfolding first_broken
accepts [] p = refl
accepts (rule ∷ rules) p =
    let none = lowest_none rule.faulty rule.places rule.places refl p.0 in
    let e = le-ltb (lowest rule.faulty rule.places) rule.places (omega arith) in
    rw e (accepts rules p.1)

-- no rule that speaks of the graph alone has a faulty place
pub record ClaimFaultless (memory : List ℕ) (n : ℕ) (edges : List ℕ) : Type 0 where
  pub shape : call_shaped (length memory) n (length edges) ≡ true
  pub edges_start : Clean (starts_at_no_jump memory n edges) (edge_count edges)
  pub edges_end : Clean (ends_outside_code n edges) (edge_count edges)
  pub edges_rise : Clean (not_rising edges) (edge_count edges)
  pub jumps_leave : Clean (lacks_edge memory edges) n
  pub sets_apart : Clean (overlaps edges n) n

module _ (memory : List ℕ) (n : ℕ) (edges : List ℕ) (rest : List Rule) where
  pub claim_passed : first_broken (claim_rules memory n edges rest) ≡ Ok tt → ClaimFaultless memory n edges × Passed rest
  claim_passed e =
      let p = passed (claim_rules memory n edges rest) e in (
        record {
          shape = not-false _ (p.0 0 (omega arith));
          edges_start = p.1.0;
          edges_end = p.1.1.0;
          edges_rise = p.1.1.1.0;
          jumps_leave = p.1.1.1.1.0;
          sets_apart = p.1.1.1.1.1.0;
        },
        p.1.1.1.1.1.1,
      )

  claim_accepts : ClaimFaultless memory n edges → Passed rest → first_broken (claim_rules memory n edges rest) ≡ Ok tt
  claim_accepts f p =
      accepts (claim_rules memory n edges rest)
      ((λ k h. ap not f.shape), (f.edges_start, (f.edges_end, (f.edges_rise, (f.jumps_leave, (f.sets_apart, p))))))

-- no rule has a faulty place
pub record Faultless (t : Technique) (memory : List ℕ) (n : ℕ) (edges : List ℕ) : Type 0 where
  pub claim : ClaimFaultless memory n edges
  pub last_illegal : is_illegal (instr_at memory (n - 1)) ≡ true
  pub labels : Clean (label_wrong memory n edges) n
  pub stores : Clean (store_unguarded t memory n) n
  pub jumps : Clean (jump_unguarded t memory n edges) n
  pub branches : Clean (branch_wrong t memory n edges) n

module _ (t : Technique) (memory : List ℕ) (n : ℕ) (edges : List ℕ) where
  abbrev others : List Rule
  others = label_rules memory n edges (guard_rules t memory n edges)

  pub accepted_faultless : verdict_of t memory n edges ≡ Ok tt → Faultless t memory n edges
  unfolding verdict_of
  accepted_faultless e =
      let p = claim_passed memory n edges others e in
      record {
        claim = p.0;
        last_illegal = not-false _ (p.1.0 0 (omega arith));
        labels = p.1.1.0;
        stores = p.1.1.1.0;
        jumps = p.1.1.1.1.0;
        branches = p.1.1.1.1.1.0;
      }

  pub faultless_accepted : Faultless t memory n edges → verdict_of t memory n edges ≡ Ok tt
  unfolding verdict_of
  faultless_accepted f =
      claim_accepts memory n edges others f.claim
      ((λ k h. ap not f.last_illegal), (f.labels, (f.stores, (f.jumps, (f.branches, tt)))))
