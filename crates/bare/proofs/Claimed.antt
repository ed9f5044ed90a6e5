-- The rules on bare code one after the other: the claim's, 20 and 21, and 22, each of which decides where those before it let the code
-- through.
use Prim.Native.Nat.{ℕ, ◌+◌, ◌*◌, ◌≤◌}
use mathlib.Core.Path.{◌≡◌, refl, sym, ap, ◌∙◌}
use mathlib.Core.Bool.{Bool, true, false, cond}
use mathlib.Core.List.{List, []}
use native.Mathlib.Omega.{arith}
use lib.Dec.{ltb}
use lib.ListN.{length, take}
use Rattle.lists.proofs.Bools.{and_left, clash}
use Rattle.lists.proofs.Counts.{count_max}
use Rattle.std.specs.Prelude.{Result, Ok, Err}
use Rattle.std.specs.Result.{result_and}
use Rattle.answers.specs.declared.Fault.{Fault}
use Rattle.answers.specs.declared.Refusal.{Refusal}
use Rattle.answers.specs.declared.Place.{Place}
use Rattle.answers.specs.Faults.{fault, Verdict}
use Rattle.answers.specs.Shape.{memory_shaped, edges_shaped}
use Rattle.isa.specs.declared.Technique.{Technique}
use Rattle.isa.specs.Instructions.{instr_at, is_jump}
use Rattle.graph.specs.Claim.{is_destination}
use Rattle.graph.specs.Passes.{Sized}
use Rattle.checker.specs.Verdicts.{first_broken, claim_rules, claim_verdict_of}
use Rattle.checker.specs.declared.Ends.{Ends}
use Rattle.checker.specs.Ends.{ends_of}
use Rattle.checker.proofs.Rules.{broken_append, broken_once, kept_once, no_rule, sized}
use Rattle.checker.proofs.Faultless.{claim_passed}
use Rattle.guarded.specs.Rewrite.{new_length}
use Rattle.guarded.specs.Rules.{too_long, word_rules, length_rule, bare_verdict_of}
use Rattle.guarded.proofs.Theorems.{guards_put_in}
use Rattle.bare.specs.Inside.{length_by}
use Rattle.bare.proofs.Chains.{words_front}

-- a verdict, from an answer that tells something where it lets through
pub told_kept : {A : Type 0} {v : Verdict} {x d : A} → result_and v (Ok x) ≡ Ok d → (v ≡ Ok tt) × (d ≡ x)
told_kept {v = Ok _} e = (refl, cc)
told_kept {v = Err f} e = clash (cc)

told_broken : {A : Type 0} {v : Verdict} (x : A) {f : Fault} → result_and v (Ok x) ≡ Err f → v ≡ Err f
told_broken {v = Ok _} x e = clash (cc)
told_broken {v = Err f} x e = cc

module _ (memory : List ℕ) (n : ℕ) (edges : List ℕ) where
  -- what 6 leaves
  pub claim_sized : claim_verdict_of memory n edges ≡ Ok tt → Sized memory n
  unfolding claim_verdict_of
  claim_sized e = sized memory n (and_left (memory_shaped (length memory) n) (edges_shaped (length edges)) (claim_passed memory n edges [] e).0.shape)

  -- the rules in three parts
  bare_by : bare_verdict_of Technique.Plain memory n edges
      ≡ result_and (claim_verdict_of memory n edges)
      (result_and (first_broken (word_rules memory n [])) (first_broken (length_rule Technique.Plain memory n edges)))
  unfolding bare_verdict_of claim_verdict_of
  bare_by =
      broken_append (claim_rules memory n edges []) (word_rules memory n (length_rule Technique.Plain memory n edges))
      ∙ ap (result_and (first_broken (claim_rules memory n edges [])))
      (broken_append (word_rules memory n []) (length_rule Technique.Plain memory n edges))

  abbrev answer : Result ℕ Fault
  answer = result_and (bare_verdict_of Technique.Plain memory n edges) (Ok (new_length Technique.Plain memory n edges))

  pub claim_broken : {f : Fault} → result_and (claim_verdict_of memory n edges) (Ok (ends_of memory n edges)) ≡ Err f
      → result_and (bare_verdict_of Technique.Plain memory n edges) (Ok (new_length Technique.Plain memory n edges)) ≡ Err f
  claim_broken e = rw (bare_by, told_broken (ends_of memory n edges) e) refl

  pub words_broken : {d : Ends} {f : Fault} → result_and (claim_verdict_of memory n edges) (Ok (ends_of memory n edges)) ≡ Ok d
      → first_broken (word_rules (take n memory) (length (take n memory)) []) ≡ Err f
      → result_and (bare_verdict_of Technique.Plain memory n edges) (Ok (new_length Technique.Plain memory n edges)) ≡ Err f
  words_broken e q =
      let k = (told_kept e).0 in rw (bare_by, k, sym (words_front memory n (claim_sized k).code_within) ∙ q) refl

  -- 22, by the length of the result
  length_told : (total : ℕ) → total ≡ new_length Technique.Plain memory n edges
      → length_by total ≡ result_and (first_broken (length_rule Technique.Plain memory n edges)) (Ok (new_length Technique.Plain memory n edges))
  length_told total z = go (ltb 2048 total) refl
    where
      long : {b : Bool} → ltb 2048 total ≡ b → too_long Technique.Plain memory n edges ≡ b
      long e = ap (ltb 2048) (sym z) ∙ e

      go : (b : Bool) → ltb 2048 total ≡ b
          → cond b (Err (fault Refusal.ResultTooLong Place.Nowhere)) (Ok total)
          ≡ result_and (first_broken (length_rule Technique.Plain memory n edges)) (Ok (new_length Technique.Plain memory n edges))
      go true e = rw (broken_once Refusal.ResultTooLong (too_long Technique.Plain memory n edges) Place.Nowhere [] (long e)) refl
      go false e =
          rw (kept_once Refusal.ResultTooLong (too_long Technique.Plain memory n edges) Place.Nowhere [] (long e), no_rule)
          (ap (λ (x : ℕ). Ok x) z)

  -- what the checks told
  module _ {ends : Ends} (e : result_and (claim_verdict_of memory n edges) (Ok (ends_of memory n edges)) ≡ Ok ends) where
    pub ends_small : (n ≤ 2048) × (ends.jumps ≤ 2048) × (ends.destinations ≤ 2048)
    ends_small =
        let k = told_kept e in
        let s = (claim_sized k.0).code_limit in (
          s,
          omega (arith, ap (λ (x : Ends). x.jumps) k.1, count_max (λ a. is_jump (instr_at memory a)) n, s),
          omega (arith, ap (λ (x : Ends). x.destinations) k.1, count_max (is_destination edges) n, s),
        )

    pub length_kept : first_broken (word_rules (take n memory) (length (take n memory)) []) ≡ Ok tt
        → length_by (n + 5 * ends.jumps + ends.destinations + 1) ≡ answer
    length_kept q =
        let k = told_kept e in
        length_told _ (rw k.1 (sym (guards_put_in.plain_length memory n edges)))
        ∙ sym (rw (bare_by, k.0, sym (words_front memory n (claim_sized k.0).code_within) ∙ q) refl)
