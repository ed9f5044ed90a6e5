-- A word fits a slot exactly where, its free fields taken out, it is the slot's word.
use Prim.Native.Nat.{ℕ, ◌-◌, ◌*◌, ◌/◌, ◌%◌, ◌^◌, ◌<◌}
use mathlib.Core.Path.{◌≡◌, refl, sym, ap, subst, ◌∙◌}
use mathlib.Core.Bool.{Bool, true, false, cond, ◌&&◌}
use native.Mathlib.Omega.{arith}
use borrow.Author.Tests.{eq-eqb, eqb-true, ltb-true, lt-ltb}
use lib.Dec.{eqb, ltb}
use Rattle.lists.proofs.Bools.{and_left, and_right, both_true, same_bool, true_false}
use Rattle.isa.specs.declared.Kind.{Kind}
use Rattle.isa.specs.declared.Instr.{Instr}
use Rattle.isa.specs.declared.Fields.{Fields}
use Rattle.isa.specs.Words.{opcode_of, named_by, register_ok, immediate_ok, known, exact, split, pack, instr_of, fields_of, decode_of}
use Rattle.isa.proofs.Words.{opcode_kind_lem, pack_split, exact_back, split_pack, decode_exact, encode_exact, word_back, fit}
use Rattle.isa.proofs.ByKind.{legal_fields}
use Rattle.guards.specs.declared.Slot.{Slot}
use Rattle.guards.specs.declared.Free.{Free}
use Rattle.guards.specs.Sequences.{any_register_of, any_immediate_of, fields_agree, fits}
use Rattle.guards.specs.Patterns.{Form, slot_of}
use Rattle.guards.proofs.Fits.{filled_fields, Agrees, agrees}

legal_pack : (x : ℕ) → exact (split x) ≡ true → pack (split x) ≡ x
legal_pack x e = pack_split x (split x).kind (opcode_kind_lem (x / 2 ^ 56) (fit (split x) e).is_known)

same : (x : ℕ) → eqb x x ≡ true
same x = eq-eqb x x refl

pub free_fit : (p f : Fields) (any_b any_w : Bool) → fields_agree p (filled_fields p f any_b any_w) any_b any_w ≡ true
free_fit p f true true = rw (same (opcode_of p.kind), same p.a, same p.c)
free_fit p f true false = rw (same (opcode_of p.kind), same p.a, same p.c, same p.w)
free_fit p f false true = rw (same (opcode_of p.kind), same p.a, same p.b, same p.c)
free_fit p f false false = rw (same (opcode_of p.kind), same p.a, same p.b, same p.c, same p.w)

module _ (i : Instr) where
  abbrev p : Fields
  p = fields_of i

  abbrev slot : Free → Slot
  slot free = record { instr = i; free = free }

  -- what is taken out of a word: its free register and its free immediate
  abbrev taken_b : Free → ℕ → ℕ
  taken_b free x = cond (any_register_of free) (x / 2 ^ 40 % 256) 0

  abbrev taken_w : Free → ℕ → ℕ
  taken_w free x = cond (any_immediate_of free) (x % 2 ^ 32) 0

  abbrev q : Free → ℕ → Fields
  q free x = filled_fields p (split x) (any_register_of free) (any_immediate_of free)

  -- the slot's fields, filled from any others that fit a word, are an exact form
  free_register : (free : Free) (f : Fields) → Form (slot free) → cond (any_register_of free) f.b 0 < 32
      → register_ok (named_by p.kind).b (cond (any_register_of free) f.b p.b) ≡ true
  free_register Free.Nothing f h l = (fit p h.legal).b_fits
  free_register Free.Register f h l = rw (h.register_named refl) (lt-ltb _ _ l)
  free_register Free.RegisterAndImmediate f h l = rw (h.register_named refl) (lt-ltb _ _ l)

  free_immediate : (free : Free) (f : Fields) → Form (slot free)
      → immediate_ok (named_by p.kind).w (cond (any_immediate_of free) f.w p.w) ≡ true
  free_immediate Free.Nothing f h = (fit p h.legal).w_fits
  free_immediate Free.Register f h = (fit p h.legal).w_fits
  free_immediate Free.RegisterAndImmediate f h = rw (h.immediate_named refl)

  pub free_exact : (free : Free) (f : Fields) → Form (slot free) → cond (any_register_of free) f.b 0 < 32
      → exact (filled_fields p f (any_register_of free) (any_immediate_of free)) ≡ true
  free_exact free f h l =
      let e = fit p h.legal in
      both_true e.is_known
      (both_true e.a_fits (both_true (free_register free f h l) (both_true e.c_fits (free_immediate free f h))))

  pub free_short : (free : Free) (f : Fields) → Form (slot free) → f.w < 2 ^ 32 → cond (any_immediate_of free) f.w p.w < 2 ^ 32
  free_short Free.Nothing f h l = h.short
  free_short Free.Register f h l = h.short
  free_short Free.RegisterAndImmediate f h l = l

  free_pack : (free : Free) (x : ℕ) → Form (slot free) → x - taken_b free x * 2 ^ 40 - taken_w free x ≡ pack p → pack (q free x) ≡ x
  free_pack Free.Nothing x h e = omega arith
  free_pack Free.Register x h e = let b = h.register_zero refl in omega arith
  free_pack Free.RegisterAndImmediate x h e = let b = h.register_zero refl in let w = h.immediate_zero refl in omega arith

  word_fits : (free : Free) (x : ℕ) → Form (slot free) → taken_b free x < 32
      → x - taken_b free x * 2 ^ 40 - taken_w free x ≡ pack p → fits (slot free) (decode_of x) ≡ true
  unfolding fits
  word_fits free x h l e =
      let ok = free_exact free (split x) h l in
      let parts : split x ≡ q free x =
      ap split (sym (free_pack free x h e)) ∙ split_pack (q free x) ok (free_short free (split x) h (omega arith)) in
      ap (λ (g : Fields). fields_agree p g (any_register_of free) (any_immediate_of free))
      (ap fields_of (decode_exact x (q free x) parts ok) ∙ exact_back (q free x) ok)
      ∙ free_fit p (split x) (any_register_of free) (any_immediate_of free)

  unpack : (free : Free) (x : ℕ) → Form (slot free) → Agrees p (split x) (any_register_of free) (any_immediate_of free) → pack (split x) ≡ x
      → x - taken_b free x * 2 ^ 40 - taken_w free x ≡ pack p
  unpack Free.Nothing x h g e =
      let b = g.b refl in let w = g.w refl in
      let o = ap opcode_of g.kind in let a = g.a in let c = g.c in omega arith
  unpack Free.Register x h g e =
      let b = h.register_zero refl in let w = g.w refl in
      let o = ap opcode_of g.kind in let a = g.a in let c = g.c in omega arith
  unpack Free.RegisterAndImmediate x h g e =
      let b = h.register_zero refl in let w = h.immediate_zero refl in
      let o = ap opcode_of g.kind in let a = g.a in let c = g.c in omega arith

  small_if_named : (x : ℕ) → (named_by p.kind).b ≡ true → p.kind ≡ (split x).kind → exact (split x) ≡ true → x / 2 ^ 40 % 256 < 32
  small_if_named x named k e =
      ltb-true _ _
      (subst (λ (b : Bool). register_ok b (split x).b ≡ true) (ap (λ (z : Kind). (named_by z).b) (sym k) ∙ named) (fit (split x) e).b_fits)

  small_register : (free : Free) (x : ℕ) → Form (slot free) → p.kind ≡ (split x).kind → exact (split x) ≡ true → taken_b free x < 32
  small_register Free.Nothing x h k e = omega arith
  small_register Free.Register x h k e = small_if_named x (h.register_named refl) k e
  small_register Free.RegisterAndImmediate x h k e = small_if_named x (h.register_named refl) k e

  record Taken (free : Free) (x : ℕ) : Type 0 where
    low : taken_b free x < 32
    rest : x - taken_b free x * 2 ^ 40 - taken_w free x ≡ pack p

  fits_word : (free : Free) (x : ℕ) → Form (slot free) → fits (slot free) (decode_of x) ≡ true → Taken free x
  unfolding fits decode_of
  fits_word free x h e = go (exact (split x)) refl
    where
      any_b : Bool
      any_b = any_register_of free

      any_w : Bool
      any_w = any_immediate_of free

      go : (b : Bool) → exact (split x) ≡ b → Taken free x
      go true ok =
          let g = agrees p (split x) any_b any_w
          (ap (λ (g : Fields). fields_agree p g any_b any_w) (sym (legal_fields x ok)) ∙ e) in
          record { low = small_register free x h g.kind ok; rest = unpack free x h g (legal_pack x ok) }
      go false bad =
          let g = agrees p (fields_of Instr.Illegal) any_b any_w
          (ap (λ (b : Bool). fields_agree p (fields_of (cond b (instr_of (split x)) Instr.Illegal)) any_b any_w) (sym bad) ∙ e) in
          absurd (true_false (fit p h.legal).is_known (ap known g.kind))

  -- the test that the code makes
  pub taken_fits : (free : Free) (x y b w : ℕ) → Form (slot free) → y ≡ pack p → b ≡ taken_b free x → w ≡ taken_w free x
      → (ltb b 32 && eqb (x - b * 2 ^ 40 - w) y) ≡ fits (slot free) (decode_of x)
  taken_fits free x y b w h ey eb ew =
      rw (ey, eb, ew)
      (same_bool _ _
      (λ t.
      word_fits free x h
      (ltb-true _ _ (and_left _ (eqb (x - taken_b free x * 2 ^ 40 - taken_w free x) (pack p)) t))
      (eqb-true _ _ (and_right (ltb (taken_b free x) 32) _ t)))
      (λ t.
      let g = fits_word free x h t in
      both_true (lt-ltb _ _ g.low) (eq-eqb _ _ g.rest)))

-- the word of a legal instruction is packed from its fields
packed : (y : ℕ) → exact (fields_of (decode_of y)) ≡ true → y ≡ pack (fields_of (decode_of y))
packed y e = sym (word_back y (λ z. true_false e (ap (λ (i : Instr). exact (fields_of i)) z))) ∙ encode_exact (decode_of y) e

module _ (x y : ℕ) where
  -- nothing is free
  pub fits_whole : Form (slot_of y Free.Nothing) → eqb x y ≡ fits (slot_of y Free.Nothing) (decode_of x)
  fits_whole h =
      let z : x - 0 * 2 ^ 40 - 0 ≡ x = omega arith in
      ap (λ (n : ℕ). eqb n y) (sym z) ∙ taken_fits (decode_of y) Free.Nothing x y 0 0 h (packed y h.legal) refl refl

  -- the register, or the immediate too, is taken out
  pub fits_register : Form (slot_of y Free.Register)
      → (ltb (x / 2 ^ 40 % 256) 32 && eqb (x - x / 2 ^ 40 % 256 * 2 ^ 40 - 0) y) ≡ fits (slot_of y Free.Register) (decode_of x)
  fits_register h = taken_fits (decode_of y) Free.Register x y (x / 2 ^ 40 % 256) 0 h (packed y h.legal) refl refl

  pub fits_both : Form (slot_of y Free.RegisterAndImmediate)
      → (ltb (x / 2 ^ 40 % 256) 32 && eqb (x - x / 2 ^ 40 % 256 * 2 ^ 40 - x % 2 ^ 32) y)
      ≡ fits (slot_of y Free.RegisterAndImmediate) (decode_of x)
  fits_both h = taken_fits (decode_of y) Free.RegisterAndImmediate x y (x / 2 ^ 40 % 256) (x % 2 ^ 32) h (packed y h.legal) refl refl
