-- What a word of bare code is, by the questions that the rewriter asks of it, and which of the three cases that makes of it. The kinds of
-- branches are named in one law, `branch_cases`.
use Prim.Native.Nat.{ℕ, ◌^◌, ◌<◌}
use mathlib.Core.Path.{◌≡◌, refl, sym, ap, subst, ◌∙◌}
use mathlib.Core.Bool.{Bool, true, false, cond, ◌&&◌}
use Rattle.std.specs.Prelude.{None, Some}
use native.Mathlib.Omega.{arith}
use borrow.Author.Tests.{eqb-true}
use Rattle.lists.proofs.Bools.{clash, and_right, true_false, refuted}
use Rattle.isa.specs.declared.Kind.{Kind}
use Rattle.isa.specs.declared.Instr.{Instr}
use Rattle.isa.specs.declared.Technique.{Technique}
use Rattle.isa.specs.Words.{opcode_of, fields_of, decode_of, encode_of}
use Rattle.isa.specs.Instructions.{is_kind, is_jump, is_store, is_branch, branch_target}
use Rattle.isa.specs.Theorems.{Registers}
use Rattle.isa.proofs.Words.{decode_registers, round_trips}
use Rattle.isa.proofs.ByKind.{of_kind}
use Rattle.guarded.specs.Rewrite.{guards_stores, by_guard, with_target}

pub not_both : (i : Instr) → is_jump i ≡ true → is_store i ≡ true → ⊥
not_both i j s =
    omega (arith, eqb-true (opcode_of Kind.Jmp) (opcode_of (fields_of i).kind) j, eqb-true (opcode_of Kind.St) (opcode_of (fields_of i).kind) s)

module _ {A : Type 0} (t : Technique) (i : Instr) (x y z : A) where
  pub at_jump : is_jump i ≡ true → by_guard t i x y z ≡ x
  at_jump e = ap (λ (b : Bool). cond b x (cond (guards_stores t && is_store i) y z)) e

  no_jump : is_jump i ≡ false → by_guard t i x y z ≡ cond (guards_stores t && is_store i) y z
  no_jump e = ap (λ (b : Bool). cond b x (cond (guards_stores t && is_store i) y z)) e

  pub at_store : (guards_stores t && is_store i) ≡ true → by_guard t i x y z ≡ y
  at_store e =
      no_jump (refuted (is_jump i) (λ j. not_both i j (and_right (guards_stores t) (is_store i) e)))
      ∙ ap (λ (b : Bool). cond b y z) e

  pub at_other : is_jump i ≡ false → (guards_stores t && is_store i) ≡ false → by_guard t i x y z ≡ z
  at_other e f = no_jump e ∙ ap (λ (b : Bool). cond b y z) f

-- ---- branches

branch_cases : (P : Instr → Type 0) → ((rs rt w : ℕ) → P (Instr.Bgt rs rt w)) → ((w : ℕ) → P (Instr.Jd w)) → ((w : ℕ) → P (Instr.Call w))
    → (i : Instr) → is_branch i ≡ true → P i
branch_cases P bgt jd call i e = go (is_kind Kind.Bgt i) (is_kind Kind.Jd i) refl refl
  where
    go : (b j : Bool) → is_kind Kind.Bgt i ≡ b → is_kind Kind.Jd i ≡ j → P i
    go true j q r = subst P (sym (of_kind Kind.Bgt i q)) (bgt _ _ _)
    go false true q r = subst P (sym (of_kind Kind.Jd i r)) (jd _)
    go false false q r = subst P (sym (of_kind Kind.Call i (rw (q, r) at e))) (call _)

pub branch_other : (t : Technique) (i : Instr) → is_branch i ≡ true → (is_jump i ≡ false) × ((guards_stores t && is_store i) ≡ false)
branch_other t i e = (
  branch_cases (λ j. is_jump j ≡ false) (λ _ _ _. refl) (λ _. refl) (λ _. refl) i e,
  refuted _ (λ s.
      true_false (and_right (guards_stores t) (is_store i) s)
      (branch_cases (λ j. is_store j ≡ false) (λ _ _ _. refl) (λ _. refl) (λ _. refl) i e)),
)

pub target_of_lem : (i : Instr) (w : ℕ) → branch_target i ≡ Some w → (is_branch i ≡ true) × ((fields_of i).w ≡ w)
target_of_lem i w e = go (is_branch i) e
  where
    go : (b : Bool) → cond b (Some (fields_of i).w) None ≡ Some w → (b ≡ true) × ((fields_of i).w ≡ w)
    go true q = (refl, cc)
    go false q = clash (cc)

-- a branch with another target, as a word of that kind
pub record Moves (i : Instr) (w : ℕ) : Type 0 where
  pub back : decode_of (encode_of (with_target i w)) ≡ with_target i w
  pub kind : (fields_of i).kind ≡ (fields_of (with_target i w)).kind
  pub target : (fields_of (with_target i w)).w ≡ w

pub moves : (word w : ℕ) → is_branch (decode_of word) ≡ true → w < 2 ^ 32 → Moves (decode_of word) w
moves word w e l =
    branch_cases (λ i. Registers i → Moves i w)
    (λ rs rt v r. record { back = round_trips.instruction_back (Instr.Bgt rs rt w) r l; kind = refl; target = refl })
    (λ v r. record { back = round_trips.instruction_back (Instr.Jd w) r l; kind = refl; target = refl })
    (λ v r. record { back = round_trips.instruction_back (Instr.Call w) r l; kind = refl; target = refl })
    (decode_of word) e (decode_registers word)
