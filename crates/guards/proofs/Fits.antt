-- What a fitting word is: the slot's instruction, with its own fields where the slot leaves them free.
use Prim.Native.Nat.{ℕ, zero, suc, ◌+◌, ◌<◌}
use mathlib.Core.Path.{◌≡◌, refl, sym, ap, ◌∙◌}
use mathlib.Core.Bool.{Bool, true, false, cond, ◌&&◌, ◌||◌}
use mathlib.Core.List.{List, [], ◌∷◌}
use native.Mathlib.Omega.{arith}
use lib.Dec.{eqb}
use lib.ListN.{length, get_or}
use borrow.Author.Tests.{eqb-true}
use Rattle.lists.proofs.Bools.{clash, and_left, and_right}
use Rattle.isa.specs.declared.Instr.{Instr}
use Rattle.isa.specs.declared.Fields.{Fields}
use Rattle.isa.specs.Words.{same_kind, fields, instr_of, fields_of}
use Rattle.isa.specs.Instructions.{instr_at}
use Rattle.isa.proofs.Words.{instr_fields}
use Rattle.isa.proofs.ByKind.{same_kind_lem}
use Rattle.guards.specs.declared.Slot.{Slot}
use Rattle.guards.specs.Sequences.{any_register_of, any_immediate_of, just, fields_agree, fits, stands_at}

-- the slot's fields, with the word's own where the slot leaves them free
abbrev pub filled_fields : Fields → Fields → Bool → Bool → Fields
filled_fields p f any_b any_w = fields p.kind p.a (cond any_b f.b p.b) p.c (cond any_w f.w p.w)

abbrev pub filled : Slot → Instr → Instr
filled s i = instr_of (filled_fields (fields_of s.instr) (fields_of i) (any_register_of s.free) (any_immediate_of s.free))

-- what agreeing fields say of each field
pub record Agrees (p f : Fields) (any_b any_w : Bool) : Type 0 where
  pub kind : p.kind ≡ f.kind
  pub a : p.a ≡ f.a
  pub b : any_b ≡ false → p.b ≡ f.b
  pub c : p.c ≡ f.c
  pub w : any_w ≡ false → p.w ≡ f.w

or_left_false : (a b : Bool) → (a || b) ≡ true → a ≡ false → b ≡ true
or_left_false true b h e = clash (cc)
or_left_false false b h e = h

pub agrees : (p f : Fields) (any_b any_w : Bool) → fields_agree p f any_b any_w ≡ true → Agrees p f any_b any_w
agrees p f any_b any_w e =
    let t1 = same_kind p.kind f.kind in
    let t2 = eqb p.a f.a in
    let t3 = any_b || eqb p.b f.b in
    let t4 = eqb p.c f.c in
    let t5 = any_w || eqb p.w f.w in
    let e1 = and_right t1 (t2 && (t3 && (t4 && t5))) e in
    let e2 = and_right t2 (t3 && (t4 && t5)) e1 in
    let e3 = and_right t3 (t4 && t5) e2 in
    record {
      kind = same_kind_lem p.kind f.kind (and_left t1 (t2 && (t3 && (t4 && t5))) e);
      a = eqb-true _ _ (and_left t2 (t3 && (t4 && t5)) e1);
      b = λ h. eqb-true _ _ (or_left_false any_b (eqb p.b f.b) (and_left t3 (t4 && t5) e2) h);
      c = eqb-true _ _ (and_left t4 t5 e3);
      w = λ h. eqb-true _ _ (or_left_false any_w (eqb p.w f.w) (and_right t4 t5 e3) h);
    }

free_or_same : (free : Bool) (p f : ℕ) → (free ≡ false → p ≡ f) → cond free f p ≡ f
free_or_same true p f e = refl
free_or_same false p f e = e refl

fields_filled : (p f : Fields) (any_b any_w : Bool) → Agrees p f any_b any_w → filled_fields p f any_b any_w ≡ f
fields_filled p f any_b any_w g = rw (g.kind, g.a, free_or_same any_b p.b f.b g.b, g.c, free_or_same any_w p.w f.w g.w)

pub fits_filled : (s : Slot) (i : Instr) → fits s i ≡ true → i ≡ filled s i
unfolding fits
fits_filled s i e =
    sym (instr_fields i)
    ∙ ap instr_of
    (sym (fields_filled (fields_of s.instr) (fields_of i) (any_register_of s.free) (any_immediate_of s.free) (agrees (fields_of s.instr) (fields_of i) _ _ e)))

-- each word of a sequence that stands in memory fits its slot
pub slot_fits : (memory : List ℕ) (b : ℕ) (slots : List Slot) → stands_at memory b slots ≡ true → (k : ℕ) → k < length slots
    → fits (get_or slots k (just Instr.Illegal)) (instr_at memory (b + k)) ≡ true
unfolding stands_at
slot_fits memory b [] e k h = absurd (omega arith)
slot_fits memory b (s ∷ slots) e zero h =
    let z : b + 0 ≡ b = omega arith in rw z (and_left (fits s (instr_at memory b)) _ e)
slot_fits memory b (s ∷ slots) e (suc k) h =
    let z : b + suc k ≡ suc b + k = omega arith in
    rw z (slot_fits memory (suc b) slots (and_right (fits s (instr_at memory b)) _ e) k (omega arith))
