-- What 20 and 21 ask of a word, by its kind and its bytes: a legal word's fields are its bytes, and an illegal one names nothing.
use Prim.Native.Nat.{ℕ, ◌/◌, ◌%◌, ◌^◌}
use mathlib.Core.Path.{◌≡◌, refl, sym, ◌∙◌}
use mathlib.Core.Bool.{Bool, true, false, cond, ◌||◌, ◌&&◌}
use mathlib.Core.List.{List, []}
use native.Mathlib.Omega.{arith}
use lib.Dec.{ltb, leb}
use lib.ListN.{length}
use Rattle.lists.proofs.Bools.{or_left, or_right}
use Rattle.lists.proofs.Search.{lowest_none, any_none}
use Rattle.std.specs.Prelude.{Ok}
use Rattle.std.specs.List.{fold}
use Rattle.isa.specs.declared.Kind.{Kind}
use Rattle.isa.specs.declared.Instr.{Instr}
use Rattle.isa.specs.Words.{named_by, same_kind, exact, split, instr_of, fields_of, decode_of}
use Rattle.isa.specs.Instructions.{instr_at, is_branch, branch_target}
use Rattle.isa.proofs.Words.{exact_back}
use Rattle.isa.proofs.ByKind.{branch_low}
use Rattle.checker.specs.Verdicts.{first_broken}
use Rattle.checker.proofs.Rules.{kept, no_rule}
use Rattle.guarded.specs.Rules.{is_reserved, names_reserved, is_unfit, outside, word_rules}
use Rattle.bare.specs.Inside.{is_wrong, registers_in, names_low, has_target}
use Rattle.bare.proofs.Chains.{found_any}

-- the fields that a kind names are the first so many
named_first : (k : Kind) (x y z : ℕ)
    → (is_reserved (named_by k).a x || (is_reserved (named_by k).b y || is_reserved (named_by k).c z))
    ≡ (is_reserved (ltb 0 (registers_in k)) x || (is_reserved (ltb 1 (registers_in k)) y || is_reserved (ltb 2 (registers_in k)) z))
named_first Kind.Label x y z = refl
named_first Kind.Add x y z = refl
named_first Kind.Addi x y z = refl
named_first Kind.Movi x y z = refl
named_first Kind.Bgt x y z = refl
named_first Kind.Jd x y z = refl
named_first Kind.Jmp x y z = refl
named_first Kind.Ld x y z = refl
named_first Kind.St x y z = refl
named_first Kind.Call x y z = refl
named_first Kind.Ret x y z = refl
named_first Kind.Unknown x y z = refl

pub low_by_kind : (x : ℕ) → names_low (registers_in (fields_of (decode_of x)).kind) x ≡ names_reserved (decode_of x)
unfolding decode_of
low_by_kind x = go (exact (split x)) refl
  where
    go : (b : Bool) → exact (split x) ≡ b
        → names_low (registers_in (fields_of (cond b (instr_of (split x)) Instr.Illegal)).kind) x
        ≡ names_reserved (cond b (instr_of (split x)) Instr.Illegal)
    go false e = refl
    go true e =
        rw (exact_back (split x) e)
        (sym (named_first (split x).kind (x / 2 ^ 48 % 256) (x / 2 ^ 40 % 256) (x / 2 ^ 32 % 256)))

-- a branch's target is the low half of its word
branch_kind : (k : Kind) → (same_kind Kind.Bgt k || (same_kind Kind.Jd k || same_kind Kind.Call k)) ≡ has_target k
branch_kind Kind.Label = refl
branch_kind Kind.Add = refl
branch_kind Kind.Addi = refl
branch_kind Kind.Movi = refl
branch_kind Kind.Bgt = refl
branch_kind Kind.Jd = refl
branch_kind Kind.Jmp = refl
branch_kind Kind.Ld = refl
branch_kind Kind.St = refl
branch_kind Kind.Call = refl
branch_kind Kind.Ret = refl
branch_kind Kind.Unknown = refl

pub out_by_kind : (x n : ℕ) → (has_target (fields_of (decode_of x)).kind && leb n (x % 2 ^ 32)) ≡ outside n (branch_target (decode_of x))
out_by_kind x n = go (is_branch (decode_of x)) refl
  where
    go : (b : Bool) → is_branch (decode_of x) ≡ b
        → (has_target (fields_of (decode_of x)).kind && leb n (x % 2 ^ 32)) ≡ outside n (branch_target (decode_of x))
    go true e = rw (branch_low x e, ← branch_kind (fields_of (decode_of x)).kind, e) refl
    go false e = rw (← branch_kind (fields_of (decode_of x)).kind, e) refl

-- where no word is found, 20 and 21 pass
pub none_wrong : (code : List ℕ) → fold (λ found word. is_wrong (length code) (decode_of word) || found) false code ≡ false
    → first_broken (word_rules code (length code) []) ≡ Ok tt
none_wrong code e =
    let n = length code in
    let none = any_none (λ a. is_wrong n (instr_at code a)) n (sym (found_any (λ word. is_wrong n (decode_of word)) code) ∙ e) in
    kept _ _ n (lowest_none _ n n refl (λ a l. or_left (is_unfit (instr_at code a)) (outside n (branch_target (instr_at code a))) (none a l))) (omega arith)
    ∙ kept _ _ n (lowest_none _ n n refl (λ a l. or_right (is_unfit (instr_at code a)) (outside n (branch_target (instr_at code a))) (none a l))) (omega arith)
    ∙ no_rule
