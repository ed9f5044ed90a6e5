-- A word is an instruction of a kind exactly where its opcode is the kind's and its fields are the kind's exact form.
use Prim.Native.Nat.{ℕ, ◌/◌, ◌%◌, ◌^◌}
use mathlib.Core.Path.{◌≡◌, refl, sym, ap, ◌∙◌}
use mathlib.Core.Bool.{Bool, true, false, not, cond, ◌&&◌, and-false}
use Rattle.std.specs.Prelude.{None, Some}
use borrow.Author.Tests.{eq-eqb, eqb-true, not-true}
use lib.Dec.{eqb}
use Rattle.lists.proofs.Bools.{and_left, and_right, both_true, same_bool, true_false}
use Rattle.isa.specs.declared.Kind.{Kind}
use Rattle.isa.specs.declared.Instr.{Instr}
use Rattle.isa.specs.declared.Fields.{Fields}
use Rattle.isa.specs.Words.{kind_of, opcode_of, same_kind, known, fields_fit, exact, fields, split, instr_of, fields_of, decode_of}
use Rattle.isa.specs.Instructions.{is_illegal, is_kind, is_branch, label_number, branch_target}
use Rattle.isa.proofs.Words.{fields_as, kind_opcode, opcode_kind_lem, instr_fields, exact_back, decode_exact, fit}

pub same_kind_lem : (k l : Kind) → same_kind k l ≡ true → k ≡ l
same_kind_lem k l e = sym (kind_opcode k) ∙ ap kind_of (eqb-true (opcode_of k) (opcode_of l) e) ∙ kind_opcode l

-- an instruction of a kind is made of its own fields
pub of_kind : (k : Kind) (i : Instr) → is_kind k i ≡ true
    → i ≡ instr_of (fields k (fields_of i).a (fields_of i).b (fields_of i).c (fields_of i).w)
of_kind k i h =
    sym (instr_fields i)
    ∙ ap (λ (z : Kind). instr_of (fields z (fields_of i).a (fields_of i).b (fields_of i).c (fields_of i).w))
    (sym (same_kind_lem k (fields_of i).kind h))

-- the fields of what a legal word decodes to are its own
pub legal_fields : (x : ℕ) → exact (split x) ≡ true → fields_of (decode_of x) ≡ split x
legal_fields x e = ap fields_of (decode_exact x (split x) refl e) ∙ exact_back (split x) e

-- the kind of what a word decodes to: its own, or none of the table where it is no exact form
pub legal_kind : (x : ℕ) → exact (split x) ≡ true → (split x).kind ≡ (fields_of (decode_of x)).kind
legal_kind x e = sym (ap (λ (f : Fields). f.kind) (legal_fields x e))

pub unknown_kind : (x : ℕ) → exact (split x) ≡ false → Kind.Unknown ≡ (fields_of (decode_of x)).kind
unfolding decode_of
unknown_kind x e = sym (ap (λ (b : Bool). (fields_of (cond b (instr_of (split x)) Instr.Illegal)).kind) e)

pub illegal_fields : (x : ℕ) → exact (split x) ≡ false → fields Kind.Unknown 0 0 0 0 ≡ fields_of (decode_of x)
unfolding decode_of
illegal_fields x e = sym (ap (λ (b : Bool). fields_of (cond b (instr_of (split x)) Instr.Illegal)) e)

-- a word is illegal precisely where it is no exact form
pub illegal_exact : (x : ℕ) → not (exact (split x)) ≡ is_illegal (decode_of x)
unfolding decode_of
illegal_exact x = go (exact (split x)) refl
  where
    go : (b : Bool) → exact (split x) ≡ b → not b ≡ is_illegal (cond b (instr_of (split x)) Instr.Illegal)
    go false e = refl
    go true e = sym (ap (λ (f : Fields). same_kind Kind.Unknown f.kind) (exact_back (split x) e) ∙ not-true _ (fit (split x) e).is_known)

module _ (k : Kind) (hk : known k ≡ true) (x : ℕ) where
  -- a word of the kind's opcode in the kind's exact form decodes to it
  pub formed_decode : opcode_of k ≡ x / 2 ^ 56 → exact (fields_as k x) ≡ true → decode_of x ≡ instr_of (fields_as k x)
  formed_decode o e =
      decode_exact x (fields_as k x) (ap (λ (z : Kind). fields_as z x) (ap kind_of (sym o) ∙ kind_opcode k)) e

  formed_kind : opcode_of k ≡ x / 2 ^ 56 → exact (fields_as k x) ≡ true → is_kind k (decode_of x) ≡ true
  formed_kind o e =
      eq-eqb _ _
      (sym
      (ap (λ (i : Instr). opcode_of (fields_of i).kind) (formed_decode o e)
      ∙ ap (λ (f : Fields). opcode_of f.kind) (exact_back (fields_as k x) e)))

  pub kind_formed : is_kind k (decode_of x) ≡ true → (opcode_of k ≡ x / 2 ^ 56) × (exact (fields_as k x) ≡ true)
  unfolding decode_of
  kind_formed h = go (exact (split x)) refl
    where
      go : (b : Bool) → exact (split x) ≡ b → (opcode_of k ≡ x / 2 ^ 56) × (exact (fields_as k x) ≡ true)
      go true e =
          let f = fit (split x) e in
          let s : k ≡ (split x).kind = same_kind_lem k (fields_of (decode_of x)).kind h ∙ ap (λ (f : Fields). f.kind) (legal_fields x e) in
          (ap opcode_of s ∙ opcode_kind_lem (x / 2 ^ 56) f.is_known, ap (λ (z : Kind). exact (fields_as z x)) s ∙ e)
      go false e =
          let s : k ≡ Kind.Unknown =
          same_kind_lem k (fields_of (decode_of x)).kind h
          ∙ ap (λ (b : Bool). (fields_of (cond b (instr_of (split x)) Instr.Illegal)).kind) e in
          absurd (true_false hk (ap known s))

  pub is_kind_lem : (eqb (opcode_of k) (x / 2 ^ 56) && exact (fields_as k x)) ≡ is_kind k (decode_of x)
  is_kind_lem =
      same_bool _ _
      (λ t.
      formed_kind (eqb-true _ _ (and_left _ (exact (fields_as k x)) t)) (and_right (eqb (opcode_of k) (x / 2 ^ 56)) _ t))
      (λ t. let p = kind_formed t in both_true (eq-eqb _ _ p.0) p.1)

  -- what a word of the kind decodes to
  pub kind_decode : is_kind k (decode_of x) ≡ true → decode_of x ≡ instr_of (fields_as k x)
  kind_decode h = let p = kind_formed h in formed_decode p.0 p.1

-- the same of any kind: no word is an instruction of the unknown one
pub is_known_kind : (k : Kind) (x : ℕ) → (eqb (opcode_of k) (x / 2 ^ 56) && exact (fields_as k x)) ≡ (known k && is_kind k (decode_of x))
is_known_kind k x = go (known k) refl
  where
    go : (b : Bool) → known k ≡ b → (eqb (opcode_of k) (x / 2 ^ 56) && exact (fields_as k x)) ≡ (known k && is_kind k (decode_of x))
    go true h = is_kind_lem k h x ∙ sym (ap (λ (b : Bool). b && is_kind k (decode_of x)) h)
    go false h =
        ap (λ (b : Bool). eqb (opcode_of k) (x / 2 ^ 56) && b) (ap (λ (b : Bool). b && fields_fit (fields_as k x)) h)
        ∙ and-false (eqb (opcode_of k) (x / 2 ^ 56))
        ∙ sym (ap (λ (b : Bool). b && is_kind k (decode_of x)) h)

-- a word of another opcode
pub other_opcode : (k : Kind) (x : ℕ) → eqb (opcode_of k) (x / 2 ^ 56) ≡ false
    → eqb (opcode_of k) (x / 2 ^ 56) ≡ (known k && is_kind k (decode_of x))
other_opcode k x e = e ∙ sym (ap (λ (b : Bool). b && exact (fields_as k x)) e) ∙ is_known_kind k x

-- the number of a label and the target of a branch, read off the word; and words that have none
pub label_low : (x : ℕ) → is_kind Kind.Label (decode_of x) ≡ true → label_number (decode_of x) ≡ Some (x % 2 ^ 32)
label_low x h = ap label_number (kind_decode Kind.Label refl x h)

pub no_label : (i : Instr) → is_kind Kind.Label i ≡ false → label_number i ≡ None
no_label i h = rw h

pub branch_low : (x : ℕ) → is_branch (decode_of x) ≡ true → branch_target (decode_of x) ≡ Some (x % 2 ^ 32)
branch_low x h = go (is_kind Kind.Bgt (decode_of x)) (is_kind Kind.Jd (decode_of x)) refl refl
  where
    go : (b j : Bool) → is_kind Kind.Bgt (decode_of x) ≡ b → is_kind Kind.Jd (decode_of x) ≡ j → branch_target (decode_of x) ≡ Some (x % 2 ^ 32)
    go true j e f = ap branch_target (kind_decode Kind.Bgt refl x e)
    go false true e f = ap branch_target (kind_decode Kind.Jd refl x f)
    go false false e f = ap branch_target (kind_decode Kind.Call refl x (rw (e, f) at h))
