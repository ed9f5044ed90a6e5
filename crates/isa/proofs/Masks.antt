-- A word's fields fit a kind exactly where no bit of the kind's mask is set in it, field by field; so the mask tells the kind.
use Prim.Native.Nat.{ℕ, ◌+◌, ◌*◌, ◌/◌, ◌%◌, ◌^◌, ◌<◌}
use mathlib.Core.Path.{◌≡◌, refl, sym, ap, ◌∙◌}
use mathlib.Core.Bool.{Bool, true, false, ◌&&◌, and-false}
use native.Mathlib.Omega.{arith}
use native.Mathlib.Nat.{zero-add, zero-mul, mod-lt, mod-eq_of_lt, div-div-eq-div-mul}
use lib.Dec.{eqb}
use lib.Pow.{pow_pos}
use lib.Pow as pow
use lib.Bits.{bit_and, and_block, and_high, and_mask, and_zero_r}
use borrow.Author.Tests.{eq-eqb, ne_eqb, eqb-true, lt-ltb, ltb-true, not-false}
use Rattle.lists.proofs.Bools.{and_four, both_true, same_bool}
use Rattle.isa.specs.declared.Kind.{Kind}
use Rattle.isa.specs.declared.Named.{Named}
use Rattle.isa.specs.Words.{kind_of, named_by, register_ok, immediate_ok, known, fields_fit, split, fields_of, decode_of}
use Rattle.isa.proofs.ByKind.{same_kind_lem, legal_kind, unknown_kind}
use Rattle.isa.specs.Inside.{clear_register, clear_immediate, clear_of}

clear_low : (b : Bool) → clear_register b < 256
clear_low true = omega arith
clear_low false = omega arith

register_clear : (b : Bool) (x : ℕ) → x < 256 → eqb (bit_and x (clear_register b)) 0 ≡ register_ok b x
register_clear true x l =
    let q : x / 32 < 8 = omega arith in
    let e : bit_and x 0xe0 ≡ x / 32 * 32 = and_high x 3 5 ∙ ap (λ (n : ℕ). n * 32) (mod-eq_of_lt q) in
    same_bool _ _
    (λ t. let z : bit_and x 0xe0 ≡ 0 = eqb-true _ _ t in lt-ltb x 32 (omega (arith, e)))
    (λ t. let z = ltb-true x 32 t in eq-eqb (bit_and x 0xe0) 0 (omega (arith, e)))
register_clear false x l =
    let e : bit_and x 0xff ≡ x % 256 = and_mask x 8 in
    same_bool _ _
    (λ t. let z : bit_and x 0xff ≡ 0 = eqb-true _ _ t in eq-eqb x 0 (omega (arith, e)))
    (λ t. let z = eqb-true x 0 t in eq-eqb (bit_and x 0xff) 0 (omega (arith, e)))

immediate_clear : (b : Bool) (w : ℕ) → w < 2 ^ 32 → eqb (bit_and w (clear_immediate b)) 0 ≡ immediate_ok b w
immediate_clear true w l = eq-eqb _ _ (and_zero_r w)
immediate_clear false w l =
    let e : bit_and w 0xffff_ffff ≡ w % 2 ^ 32 = and_mask w 32 in
    same_bool _ _
    (λ t. let z : bit_and w 0xffff_ffff ≡ 0 = eqb-true _ _ t in eq-eqb w 0 (omega (arith, e)))
    (λ t. let z = eqb-true w 0 t in eq-eqb (bit_and w 0xffff_ffff) 0 (omega (arith, e)))

-- the low part of a number and what is above it, against those of a mask
block : (k x m r : ℕ) → r < 2 ^ k → bit_and x (m * 2 ^ k + r) ≡ bit_and (x / 2 ^ k) m * 2 ^ k + bit_and (x % 2 ^ k) r
block k x m r l = ap (λ (n : ℕ). bit_and n (m * 2 ^ k + r)) (sym (pow.split x k)) ∙ and_block k (x / 2 ^ k) m (x % 2 ^ k) r (mod-lt x (pow_pos k)) l

-- a number in blocks is 0 where each of them is
apart : (a b c w : ℕ) → eqb (((a * 256 + b) * 256 + c) * 2 ^ 32 + w) 0 ≡ (eqb a 0 && (eqb b 0 && (eqb c 0 && eqb w 0)))
apart a b c w = same_bool _ _ there back
  where
    there : eqb (((a * 256 + b) * 256 + c) * 2 ^ 32 + w) 0 ≡ true → (eqb a 0 && (eqb b 0 && (eqb c 0 && eqb w 0))) ≡ true
    there t =
        let z : ((a * 256 + b) * 256 + c) * 2 ^ 32 + w ≡ 0 = eqb-true _ _ t in
        both_true (eq-eqb a 0 (omega arith)) (both_true (eq-eqb b 0 (omega arith)) (both_true (eq-eqb c 0 (omega arith)) (eq-eqb w 0 (omega arith))))

    back : (eqb a 0 && (eqb b 0 && (eqb c 0 && eqb w 0))) ≡ true → eqb (((a * 256 + b) * 256 + c) * 2 ^ 32 + w) 0 ≡ true
    back t =
        let p = and_four (eqb a 0) (eqb b 0) (eqb c 0) (eqb w 0) t in
        let ea = eqb-true a 0 p.0 in
        let eb = eqb-true b 0 p.1 in
        let ec = eqb-true c 0 p.2 in
        let ew = eqb-true w 0 p.3 in
        eq-eqb (((a * 256 + b) * 256 + c) * 2 ^ 32 + w) 0 (omega arith)

immediate_low : (b : Bool) → clear_immediate b < 2 ^ 32
immediate_low true = omega arith
immediate_low false = omega arith

module _ (m : Named) (x : ℕ) where
  abbrev in_a : ℕ
  in_a = bit_and (x / 2 ^ 48 % 256) (clear_register m.a)

  abbrev in_b : ℕ
  in_b = bit_and (x / 2 ^ 40 % 256) (clear_register m.b)

  abbrev in_c : ℕ
  in_c = bit_and (x / 2 ^ 32 % 256) (clear_register m.c)

  abbrev in_w : ℕ
  in_w = bit_and (x % 2 ^ 32) (clear_immediate m.w)

  -- the mask's bits in the word, field by field; it has none in the opcode
  in-a : bit_and (x / 2 ^ 48) (clear_register m.a) ≡ in_a
  in-a =
      ap (bit_and (x / 2 ^ 48)) (sym (zero-add (clear_register m.a)))
      ∙ ap (λ (n : ℕ). bit_and (x / 2 ^ 48) (n + clear_register m.a)) (sym (zero-mul (2 ^ 8)))
      ∙ block 8 (x / 2 ^ 48) 0 (clear_register m.a) (clear_low m.a)
      ∙ omega (arith, and_zero_r (x / 2 ^ 48 / 2 ^ 8))

  in-b : bit_and (x / 2 ^ 40) (clear_register m.a * 256 + clear_register m.b) ≡ in_a * 256 + in_b
  in-b =
      block 8 (x / 2 ^ 40) (clear_register m.a) (clear_register m.b) (clear_low m.b)
      ∙ ap (λ (n : ℕ). bit_and n (clear_register m.a) * 256 + in_b) (div-div-eq-div-mul x (2 ^ 40) 256)
      ∙ ap (λ (n : ℕ). n * 256 + in_b) in-a

  in-c : bit_and (x / 2 ^ 32) ((clear_register m.a * 256 + clear_register m.b) * 256 + clear_register m.c) ≡ (in_a * 256 + in_b) * 256 + in_c
  in-c =
      block 8 (x / 2 ^ 32) (clear_register m.a * 256 + clear_register m.b) (clear_register m.c) (clear_low m.c)
      ∙ ap (λ (n : ℕ). bit_and n (clear_register m.a * 256 + clear_register m.b) * 256 + in_c) (div-div-eq-div-mul x (2 ^ 32) 256)
      ∙ ap (λ (n : ℕ). n * 256 + in_c) in-b

  in_all : bit_and x (clear_of m) ≡ ((in_a * 256 + in_b) * 256 + in_c) * 2 ^ 32 + in_w
  in_all =
      block 32 x ((clear_register m.a * 256 + clear_register m.b) * 256 + clear_register m.c) (clear_immediate m.w) (immediate_low m.w)
      ∙ ap (λ (n : ℕ). n * 2 ^ 32 + in_w) in-c

  pub fields_clear :
      eqb (bit_and x (clear_of m)) 0
      ≡ (register_ok m.a (x / 2 ^ 48 % 256)
      && (register_ok m.b (x / 2 ^ 40 % 256) && (register_ok m.c (x / 2 ^ 32 % 256) && immediate_ok m.w (x % 2 ^ 32))))
  fields_clear =
      ap (λ (n : ℕ). eqb n 0) in_all
      ∙ apart in_a in_b in_c in_w
      ∙ rw (register_clear m.a (x / 2 ^ 48 % 256) (omega arith), register_clear m.b (x / 2 ^ 40 % 256) (omega arith), register_clear m.c (x / 2 ^ 32 % 256) (omega arith), immediate_clear m.w (x % 2 ^ 32) (omega arith))

-- the kind of a word that is clear of the mask, and of one that is not
abbrev opcode_kind : ℕ → Kind
opcode_kind x = kind_of (x / 2 ^ 56)

pub clear_kind : (x : ℕ) → bit_and x (clear_of (named_by (opcode_kind x))) ≡ 0 → opcode_kind x ≡ (fields_of (decode_of x)).kind
clear_kind x e = go (known (opcode_kind x)) refl
  where
    fits : fields_fit (split x) ≡ true
    fits = sym (fields_clear (named_by (opcode_kind x)) x) ∙ eq-eqb _ _ e

    go : (b : Bool) → known (opcode_kind x) ≡ b → opcode_kind x ≡ (fields_of (decode_of x)).kind
    go true k = legal_kind x (both_true k fits)
    go false k =
        sym (same_kind_lem Kind.Unknown (opcode_kind x) (not-false _ k)) ∙ unknown_kind x (ap (λ (b : Bool). b && fields_fit (split x)) k)

pub other_kind : (x : ℕ) → (bit_and x (clear_of (named_by (opcode_kind x))) ≡ 0 → ⊥) → Kind.Unknown ≡ (fields_of (decode_of x)).kind
other_kind x ne =
    unknown_kind x
    (ap (λ (b : Bool). known (opcode_kind x) && b) (sym (fields_clear (named_by (opcode_kind x)) x) ∙ ne_eqb _ _ ne)
    ∙ and-false (known (opcode_kind x)))
