-- Which bare code the rewriter turns away (document 02, K7), in this order: 6, 7, 8, 18, 9 and 10, "as the checkers answer them"; 20, 21
-- and 22. 5 comes last, and is said where the answer is.
use Rattle.std.specs.Prelude.{ℕ, Bool, false, ◌&&◌, ◌||◌, List, [], ◌∷◌, ltb, leb, Option, None, Some}
use Rattle.answers.specs.declared.Refusal.{Refusal}
use Rattle.answers.specs.declared.Place.{Place}
use Rattle.answers.specs.Faults.{Verdict}
use Rattle.isa.specs.declared.Kind.{Kind}
use Rattle.isa.specs.declared.Instr.{Instr}
use Rattle.isa.specs.declared.Technique.{Technique}
use Rattle.isa.specs.Words.{named_by, fields_of}
use Rattle.isa.specs.Instructions.{instr_at, is_kind, branch_target}
use Rattle.checker.specs.Verdicts.{Rule, rule_once, rule_per_address, first_broken, claim_rules}
use Rattle.guarded.specs.Rewrite.{new_length}

-- a field that is named, with r0, r1 or r2 in it
abbrev pub is_reserved : Bool → ℕ → Bool
is_reserved named r = named && ltb r 3

abbrev pub names_reserved : Instr → Bool
names_reserved i =
    is_reserved (named_by (fields_of i).kind).a (fields_of i).a
    || (is_reserved (named_by (fields_of i).kind).b (fields_of i).b || is_reserved (named_by (fields_of i).kind).c (fields_of i).c)

-- 20. "a label or a word naming r0, r1 or r2"
abbrev pub is_unfit : Instr → Bool
is_unfit i = is_kind Kind.Label i || names_reserved i

abbrev pub label_or_reserved : List ℕ → ℕ → Bool
label_or_reserved memory a = is_unfit (instr_at memory a)

abbrev pub outside : ℕ → Option ℕ → Bool
outside n None = false
outside n (Some w) = leb n w

-- 21. "a branch out of the bare code"
abbrev pub branches_out : List ℕ → ℕ → ℕ → Bool
branches_out memory n a = outside n (branch_target (instr_at memory a))

-- 22. "a result above 2,048 words"
abbrev pub too_long : Technique → List ℕ → ℕ → List ℕ → Bool
too_long t memory n edges = ltb 2048 (new_length t memory n edges)

-- "after 6 to 10 and 18, number 20 ..; 21 ..", and then the rest
abbrev pub word_rules : List ℕ → ℕ → List Rule → List Rule
word_rules memory n rest =
    rule_per_address Refusal.LabelOrReserved n (label_or_reserved memory) ∷ rule_per_address Refusal.BranchOut n (branches_out memory n) ∷ rest

-- "22 for a result above 2,048 words"
abbrev pub length_rule : Technique → List ℕ → ℕ → List ℕ → List Rule
length_rule t memory n edges = rule_once Refusal.ResultTooLong (too_long t memory n edges) Place.Nowhere ∷ []

-- memory is n words of bare code and then the data; `Ok tt` where it may be rewritten
unfoldable pub bare_verdict_of : Technique → List ℕ → ℕ → List ℕ → Verdict
bare_verdict_of t memory n edges = first_broken (claim_rules memory n edges (word_rules memory n (length_rule t memory n edges)))
