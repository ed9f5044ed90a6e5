-- The five numbers of a word, read off the word.
use Prim.Native.Nat.{ℕ, ◌/◌, ◌%◌, ◌^◌}
use mathlib.Core.Path.{◌≡◌, refl, sym, ap, ◌∙◌}
use mathlib.Core.Bool.{Bool, true, false, not, cond}
use mathlib.Core.List.{[], ◌∷◌}
use Rattle.lists.proofs.Bools.{clash}
use Rattle.isa.specs.declared.Instr.{Instr}
use Rattle.isa.specs.Words.{exact, split, instr_of, fields_of, decode_of}
use Rattle.isa.specs.Instructions.{is_illegal}
use Rattle.isa.proofs.Words.{opcode_kind_lem, fit}
use Rattle.isa.proofs.ByKind.{legal_fields, illegal_exact}
use Rattle.capi.specs.Words.{numbers_of}

is_exact : (b : Bool) → not b ≡ false → b ≡ true
is_exact true e = refl
is_exact false e = clash (cc)

pub legal_numbers : (x : ℕ) → is_illegal (decode_of x) ≡ false → x / 2 ^ 56 ∷ x / 2 ^ 48 % 256 ∷ x / 2 ^ 40 % 256 ∷ x / 2 ^ 32 % 256 ∷ x % 2 ^ 32 ∷ [] ≡ numbers_of (fields_of (decode_of x))
legal_numbers x h =
    let e : exact (split x) ≡ true = is_exact (exact (split x)) (illegal_exact x ∙ h) in
    ap (λ (o : ℕ). o ∷ x / 2 ^ 48 % 256 ∷ x / 2 ^ 40 % 256 ∷ x / 2 ^ 32 % 256 ∷ x % 2 ^ 32 ∷ []) (sym (opcode_kind_lem (x / 2 ^ 56) (fit (split x) e).is_known))
    ∙ sym (ap numbers_of (legal_fields x e))

pub illegal_numbers : (x : ℕ) → is_illegal (decode_of x) ≡ true → 255 ∷ 0 ∷ 0 ∷ 0 ∷ 0 ∷ [] ≡ numbers_of (fields_of (decode_of x))
unfolding decode_of
illegal_numbers x h = go (exact (split x)) (illegal_exact x ∙ h)
  where
    go : (b : Bool) → not b ≡ true → 255 ∷ 0 ∷ 0 ∷ 0 ∷ 0 ∷ [] ≡ numbers_of (fields_of (cond b (instr_of (split x)) Instr.Illegal))
    go true e = clash (cc)
    go false e = refl
