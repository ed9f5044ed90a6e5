-- Laws of the decoder and the encoder: what the code's proofs cite, and the theorems of `specs/Theorems.antt`.
use Prim.Native.Nat.{ℕ, ◌+◌, ◌*◌, ◌/◌, ◌%◌, ◌^◌, ◌<◌}
use mathlib.Core.Path.{◌≡◌, refl, ap, sym, ◌∙◌}
use mathlib.Core.Logic.{◌⊎◌, inl, inr}
use mathlib.Core.Bool.{Bool, true, false, cond}
use native.Mathlib.Nat.{div-div-eq-div-mul}
use native.Mathlib.Omega.{arith}
use lib.Dec.{eqb}
use borrow.Author.Tests.{eqb-true, ltb-true, lt-ltb}
use Rattle.lists.proofs.Bools.{clash, and_left, and_right, and_four}
use Rattle.isa.specs.declared.Kind.{Kind}
use Rattle.isa.specs.declared.Instr.{Instr}
use Rattle.isa.specs.declared.Fields.{Fields}
use Rattle.isa.specs.Words.{
  kind_of,
  opcode_of,
  named_by,
  register_ok,
  immediate_ok,
  known,
  fields_fit,
  exact,
  fields,
  split,
  pack,
  instr_of,
  fields_of,
  all_bits_set,
  decode_of,
  word_of,
  encode_of,
}
use Rattle.isa.specs.Theorems.{Registers, RoundTrips}

-- a word's fields, read as a given kind
abbrev pub fields_as : Kind → ℕ → Fields
fields_as k x = fields k (x / 2 ^ 48 % 256) (x / 2 ^ 40 % 256) (x / 2 ^ 32 % 256) (x % 2 ^ 32)

-- decoding by kinds: an arm that tests its own kind gives the definition
pub decode_arm : (x : ℕ) (k : Kind) → kind_of (x / 2 ^ 56) ≡ k → (e : Bool) → e ≡ exact (fields_as k x)
    → (r : Instr) → r ≡ cond e (instr_of (fields_as k x)) Instr.Illegal → r ≡ decode_of x
unfolding decode_of
decode_arm x k h e he r hr = rw (h, ← he) hr

-- opcodes and kinds
pub kind_opcode : (k : Kind) → kind_of (opcode_of k) ≡ k
kind_opcode Kind.Label = refl
kind_opcode Kind.Add = refl
kind_opcode Kind.Addi = refl
kind_opcode Kind.Movi = refl
kind_opcode Kind.Bgt = refl
kind_opcode Kind.Jd = refl
kind_opcode Kind.Jmp = refl
kind_opcode Kind.Ld = refl
kind_opcode Kind.St = refl
kind_opcode Kind.Call = refl
kind_opcode Kind.Ret = refl
kind_opcode Kind.Unknown = refl

opcode_small : (k : Kind) → opcode_of k < 256
opcode_small k =
    elim k as (λ (k : Kind). opcode_of k < 256) [
      | Kind.Label ↦ omega arith
      | Kind.Add ↦ omega arith
      | Kind.Addi ↦ omega arith
      | Kind.Movi ↦ omega arith
      | Kind.Bgt ↦ omega arith
      | Kind.Jd ↦ omega arith
      | Kind.Jmp ↦ omega arith
      | Kind.Ld ↦ omega arith
      | Kind.St ↦ omega arith
      | Kind.Call ↦ omega arith
      | Kind.Ret ↦ omega arith
      | Kind.Unknown ↦ omega arith
    ]

abbrev pub Opcode : ℕ → Kind → Type 0
Opcode op k = known k ≡ true → opcode_of k ≡ op

-- one test of `kind_of`: either it holds, and the opcode is the kind's, or the rest decides
tested : (op i : ℕ) (k r : Kind) → opcode_of k ≡ i → Opcode op r → Opcode op (cond (eqb op i) k r)
tested op i k r hk hr = go (eqb op i) refl
  where
    go : (b : Bool) → eqb op i ≡ b → Opcode op (cond b k r)
    go true e = λ h. hk ∙ sym (eqb-true op i e)
    go false e = hr

pub opcode_kind_lem : (op : ℕ) → Opcode op (kind_of op)
opcode_kind_lem op =
    tested op 0 Kind.Label _ refl
    (tested op 1 Kind.Add _ refl
    (tested op 2 Kind.Addi _ refl
    (tested op 3 Kind.Movi _ refl
    (tested op 4 Kind.Bgt _ refl
    (tested op 5 Kind.Jd _ refl
    (tested op 6 Kind.Jmp _ refl
    (tested op 7 Kind.Ld _ refl
    (tested op 8 Kind.St _ refl
    (tested op 9 Kind.Call _ refl (tested op 10 Kind.Ret _ refl (λ h. clash (cc))))))))))))

-- the parts of a word and the word of its parts
pub pack_split : (w : ℕ) → (k : Kind) → opcode_of k ≡ w / 2 ^ 56 → pack (fields_as k w) ≡ w
pack_split w k h =
    rw h
    (omega (arith, div-div-eq-div-mul w (2 ^ 32) 256, div-div-eq-div-mul w (2 ^ 40) 256, div-div-eq-div-mul w (2 ^ 48) 256))

module _ (op a b c w : ℕ) (ho : op < 256) (ha : a < 256) (hb : b < 256) (hc : c < 256) (hw : w < 2 ^ 32) where
  abbrev word : ℕ
  word = (((op * 256 + a) * 256 + b) * 256 + c) * 2 ^ 32 + w

  part_op : word / 2 ^ 56 ≡ op
  part_op = omega arith

  part_a : word / 2 ^ 48 % 256 ≡ a
  part_a = omega arith

  part_b : word / 2 ^ 40 % 256 ≡ b
  part_b = omega arith

  part_c : word / 2 ^ 32 % 256 ≡ c
  part_c = omega arith

  part_w : word % 2 ^ 32 ≡ w
  part_w = omega arith

-- a field of an exact form is itself where it is named, and else 0
register_named : (b : Bool) (x : ℕ) → register_ok b x ≡ true → cond b x 0 ≡ x
register_named true x h = refl
register_named false x h = sym (eqb-true x 0 h)

immediate_named : (b : Bool) (x : ℕ) → immediate_ok b x ≡ true → cond b x 0 ≡ x
immediate_named true x h = refl
immediate_named false x h = sym (eqb-true x 0 h)

register_small : (b : Bool) (x : ℕ) → register_ok b x ≡ true → x < 256
register_small true x h = omega (arith, ltb-true x 32 h)
register_small false x h = omega (arith, eqb-true x 0 h)

pub record Fit (f : Fields) : Type 0 where
  pub is_known : known f.kind ≡ true
  pub a_fits : register_ok (named_by f.kind).a f.a ≡ true
  pub b_fits : register_ok (named_by f.kind).b f.b ≡ true
  pub c_fits : register_ok (named_by f.kind).c f.c ≡ true
  pub w_fits : immediate_ok (named_by f.kind).w f.w ≡ true

pub fit : (f : Fields) → exact f ≡ true → Fit f
fit f h =
    let p = and_four _ _ _ _ (and_right (known f.kind) (fields_fit f) h) in
    record { is_known = and_left (known f.kind) _ h; a_fits = p.0; b_fits = p.1; c_fits = p.2; w_fits = p.3 }

-- the named fields, and 0 for the others
abbrev only_named : Fields → Fields
only_named f =
    fields f.kind
    (cond (named_by f.kind).a f.a 0)
    (cond (named_by f.kind).b f.b 0)
    (cond (named_by f.kind).c f.c 0)
    (cond (named_by f.kind).w f.w 0)

fields_instr : (k : Kind) (a b c w : ℕ) → fields_of (instr_of (fields k a b c w)) ≡ only_named (fields k a b c w)
fields_instr Kind.Label a b c w = refl
fields_instr Kind.Add a b c w = refl
fields_instr Kind.Addi a b c w = refl
fields_instr Kind.Movi a b c w = refl
fields_instr Kind.Bgt a b c w = refl
fields_instr Kind.Jd a b c w = refl
fields_instr Kind.Jmp a b c w = refl
fields_instr Kind.Ld a b c w = refl
fields_instr Kind.St a b c w = refl
fields_instr Kind.Call a b c w = refl
fields_instr Kind.Ret a b c w = refl
fields_instr Kind.Unknown a b c w = refl

pub exact_back : (f : Fields) → exact f ≡ true → fields_of (instr_of f) ≡ f
exact_back f h =
    let e = fit f h in
    fields_instr f.kind f.a f.b f.c f.w
    ∙ rw (
      register_named (named_by f.kind).a f.a e.a_fits,
      register_named (named_by f.kind).b f.b e.b_fits,
      register_named (named_by f.kind).c f.c e.c_fits,
      immediate_named (named_by f.kind).w f.w e.w_fits,
    )

pub instr_fields : (i : Instr) → instr_of (fields_of i) ≡ i
instr_fields (Instr.Label w) = refl
instr_fields (Instr.Add d s t) = refl
instr_fields (Instr.Addi d s w) = refl
instr_fields (Instr.Movi d w) = refl
instr_fields (Instr.Bgt s t w) = refl
instr_fields (Instr.Jd w) = refl
instr_fields (Instr.Jmp s) = refl
instr_fields (Instr.Ld d s w) = refl
instr_fields (Instr.St d s w) = refl
instr_fields (Instr.Call w) = refl
instr_fields Instr.Ret = refl
instr_fields Instr.Illegal = refl

pub split_pack : (f : Fields) → exact f ≡ true → f.w < 2 ^ 32 → split (pack f) ≡ f
split_pack f h hw =
    let e = fit f h in
    let o = opcode_of f.kind in
    let ho = opcode_small f.kind in
    let ha = register_small (named_by f.kind).a f.a e.a_fits in
    let hb = register_small (named_by f.kind).b f.b e.b_fits in
    let hc = register_small (named_by f.kind).c f.c e.c_fits in
    rw (
      part_op o f.a f.b f.c f.w ho ha hb hc hw,
      part_a o f.a f.b f.c f.w ho ha hb hc hw,
      part_b o f.a f.b f.c f.w ho ha hb hc hw,
      part_c o f.a f.b f.c f.w ho ha hb hc hw,
      part_w o f.a f.b f.c f.w ho ha hb hc hw,
      kind_opcode f.kind,
    )

pub word_back : (w : ℕ) → (decode_of w ≡ Instr.Illegal → ⊥) → encode_of (decode_of w) ≡ w
unfolding decode_of encode_of word_of
word_back w legal = go (exact (split w)) refl legal
  where
    go : (b : Bool) → exact (split w) ≡ b → (cond b (instr_of (split w)) Instr.Illegal ≡ Instr.Illegal → ⊥)
        → word_of (fields_of (cond b (instr_of (split w)) Instr.Illegal)) ≡ w
    go false e l = absurd (l refl)
    go true e l =
        rw (exact_back (split w) e, e)
        (pack_split w (split w).kind (opcode_kind_lem (w / 2 ^ 56) (fit (split w) e).is_known))

-- an exact form survives encoding
pub encode_exact : (i : Instr) → exact (fields_of i) ≡ true → encode_of i ≡ pack (fields_of i)
unfolding encode_of word_of
encode_exact i e = rw e

pub decode_exact : (w : ℕ) (f : Fields) → split w ≡ f → exact f ≡ true → decode_of w ≡ instr_of f
unfolding decode_of
decode_exact w f q e =
    ap (λ (x : Fields). cond (exact x) (instr_of x) Instr.Illegal) q
    ∙ ap (λ (b : Bool). cond b (instr_of f) Instr.Illegal) e

pub exact_instruction : (i : Instr) → exact (fields_of i) ≡ true → (fields_of i).w < 2 ^ 32 → decode_of (encode_of i) ≡ i
exact_instruction i e hw =
    ap decode_of (encode_exact i e) ∙ decode_exact _ (fields_of i) (split_pack (fields_of i) e hw) e ∙ instr_fields i

-- an instruction but Illegal is exact precisely when its registers are below 32
registers_exact : (i : Instr) → Registers i → (i ≡ Instr.Illegal) ⊎ (exact (fields_of i) ≡ true)
registers_exact (Instr.Label w) r = inr refl
registers_exact (Instr.Add d s t) r = inr (rw (lt-ltb d 32 r.0, lt-ltb s 32 r.1, lt-ltb t 32 r.2))
registers_exact (Instr.Addi d s w) r = inr (rw (lt-ltb d 32 r.0, lt-ltb s 32 r.1))
registers_exact (Instr.Movi d w) r = inr (rw (lt-ltb d 32 r))
registers_exact (Instr.Bgt s t w) r = inr (rw (lt-ltb s 32 r.0, lt-ltb t 32 r.1))
registers_exact (Instr.Jd w) r = inr refl
registers_exact (Instr.Jmp s) r = inr (rw (lt-ltb s 32 r))
registers_exact (Instr.Ld d s w) r = inr (rw (lt-ltb d 32 r.0, lt-ltb s 32 r.1))
registers_exact (Instr.St d s w) r = inr (rw (lt-ltb d 32 r.0, lt-ltb s 32 r.1))
registers_exact (Instr.Call w) r = inr refl
registers_exact Instr.Ret r = inr refl
registers_exact Instr.Illegal r = inl refl

exact_registers : (i : Instr) → exact (fields_of i) ≡ true → Registers i
exact_registers (Instr.Label w) h = tt
exact_registers (Instr.Add d s t) h =
    let e = fit (fields_of (Instr.Add d s t)) h in
    (ltb-true d 32 e.a_fits, ltb-true s 32 e.b_fits, ltb-true t 32 e.c_fits)
exact_registers (Instr.Addi d s w) h =
    let e = fit (fields_of (Instr.Addi d s w)) h in (ltb-true d 32 e.a_fits, ltb-true s 32 e.b_fits)
exact_registers (Instr.Movi d w) h = ltb-true d 32 (fit (fields_of (Instr.Movi d w)) h).a_fits
exact_registers (Instr.Bgt s t w) h =
    let e = fit (fields_of (Instr.Bgt s t w)) h in (ltb-true s 32 e.a_fits, ltb-true t 32 e.b_fits)
exact_registers (Instr.Jd w) h = tt
exact_registers (Instr.Jmp s) h = ltb-true s 32 (fit (fields_of (Instr.Jmp s)) h).a_fits
exact_registers (Instr.Ld d s w) h =
    let e = fit (fields_of (Instr.Ld d s w)) h in (ltb-true d 32 e.a_fits, ltb-true s 32 e.b_fits)
exact_registers (Instr.St d s w) h =
    let e = fit (fields_of (Instr.St d s w)) h in (ltb-true d 32 e.a_fits, ltb-true s 32 e.b_fits)
exact_registers (Instr.Call w) h = tt
exact_registers Instr.Ret h = tt
exact_registers Instr.Illegal h = tt

-- what a word decodes to names registers below 32
pub decode_registers : (w : ℕ) → Registers (decode_of w)
unfolding decode_of
decode_registers w = go (exact (split w)) refl
  where
    go : (b : Bool) → exact (split w) ≡ b → Registers (cond b (instr_of (split w)) Instr.Illegal)
    go false e = tt
    go true e = exact_registers (instr_of (split w)) (rw (exact_back (split w) e) e)

not_exact : (i : Instr) → (Registers i → ⊥) → encode_of i ≡ all_bits_set
unfolding encode_of word_of
not_exact i h = go (exact (fields_of i)) refl
  where
    go : (b : Bool) → exact (fields_of i) ≡ b → cond b (pack (fields_of i)) all_bits_set ≡ all_bits_set
    go false e = refl
    go true e = absurd (h (exact_registers i e))

label_word : (w : ℕ) → encode_of (Instr.Label w) ≡ w
unfolding encode_of word_of
label_word w = omega arith

pub round_trips : RoundTrips
unfolding decode_of encode_of word_of
round_trips =
    record {
      word_back = λ w _ legal. word_back w legal;
      instruction_back = λ i r hw. go i hw (registers_exact i r);
      register_above_31 = not_exact;
      illegal_word = refl;
      all_bits_set = refl;
      label_word = label_word;
    }
  where
    go : (i : Instr) → (fields_of i).w < 2 ^ 32 → (i ≡ Instr.Illegal) ⊎ (exact (fields_of i) ≡ true) → decode_of (encode_of i) ≡ i
    go i hw (inl e) = rw e
    go i hw (inr e) = exact_instruction i e hw
