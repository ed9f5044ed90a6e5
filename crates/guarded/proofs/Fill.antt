-- A guard with its free places filled stands where its words are written: argued one time over any list of slots, from their form and from
-- the size of what is filled in.
use Prim.Native.Nat.{ℕ, zero, suc, ◌+◌, ◌^◌, ◌<◌}
use mathlib.Core.Path.{◌≡◌, refl, sym, ap, subst, ◌∙◌}
use mathlib.Core.Bool.{Bool, true, false, cond}
use mathlib.Core.List.{List, [], ◌∷◌, map}
use native.Mathlib.Omega.{arith}
use lib.ListN.{length, get_or}
use Rattle.lists.proofs.Bools.{both_true}
use Rattle.isa.specs.declared.Kind.{Kind}
use Rattle.isa.specs.declared.Instr.{Instr}
use Rattle.isa.specs.declared.Fields.{Fields}
use Rattle.isa.specs.Words.{exact, fields, fields_of, decode_of, encode_of}
use Rattle.isa.specs.Instructions.{instr_at}
use Rattle.isa.proofs.Words.{exact_back, exact_instruction}
use Rattle.guards.specs.declared.Slot.{Slot}
use Rattle.guards.specs.Sequences.{any_register_of, any_immediate_of, fields_agree, fits, stands_at}
use Rattle.guards.specs.Patterns.{Form, Formed}
use Rattle.guards.proofs.Fits.{filled_fields}
use Rattle.guards.proofs.Forms.{free_fit, free_exact, free_short}
use Rattle.guarded.specs.Rewrite.{fill, filled}
use Rattle.guarded.specs.Theorems.{Stand}

-- ---- words that stand in memory

module _ (memory : List ℕ) (b x : ℕ) where
  pub first_stands : (xs : List ℕ) → Stand memory b (x ∷ xs) → get_or memory b 0 ≡ x
  first_stands xs h = let z : b + 0 ≡ b = omega arith in rw z at (h 0 (omega arith))

  pub one_stands : get_or memory b 0 ≡ x → Stand memory b (x ∷ [])
  one_stands e zero l = let z : b + 0 ≡ b = omega arith in rw z e
  one_stands e (suc k) l = absurd (omega arith)

-- ---- one slot

module _ (s : Slot) (form : Form s) (r w : ℕ) (register : r < 32) (short : w < 2 ^ 32) where
  abbrev given : Fields
  given = fields Kind.Unknown 0 r 0 w

  abbrev parts : Fields
  parts = filled_fields (fields_of s.instr) given (any_register_of s.free) (any_immediate_of s.free)

  fill_exact : exact parts ≡ true
  fill_exact = free_exact s.instr s.free given form (low (any_register_of s.free))
    where
      low : (b : Bool) → cond b r 0 < 32
      low true = register
      low false = omega arith

  fill_fits : fits s (fill s r w) ≡ true
  unfolding fits
  fill_fits =
      ap (λ (f : Fields). fields_agree (fields_of s.instr) f (any_register_of s.free) (any_immediate_of s.free)) (exact_back parts fill_exact)
      ∙ free_fit (fields_of s.instr) given (any_register_of s.free) (any_immediate_of s.free)

  fill_back : decode_of (encode_of (fill s r w)) ≡ fill s r w
  fill_back =
      let e = exact_back parts fill_exact in
      exact_instruction (fill s r w) (ap exact e ∙ fill_exact)
      (subst (λ (f : Fields). f.w < 2 ^ 32) (sym e) (free_short s.instr s.free given form short))

-- ---- all slots

-- what may be filled in: a word has room for it
pub record Fillable (slots : List Slot) (r w later : ℕ) : Type 0 where
  pub formed : Formed slots
  pub register : r < 32
  pub short : w < 2 ^ 32
  pub later_register : later < 32

-- what holds of each instruction of a list, at the address where it stands
abbrev pub AllAt : (Instr → ℕ → Type 0) → List Instr → ℕ → Type 0
AllAt P [] b = Unit {0}
AllAt P (i ∷ rest) b = P i b × AllAt P rest (suc b)

module _ (memory : List ℕ) where
  first_filled : (s : Slot) (slots : List Slot) (b r w later : ℕ) → Fillable (s ∷ slots) r w later
      → Stand memory b (map encode_of (filled (s ∷ slots) r w later)) → instr_at memory b ≡ fill s r w
  first_filled s slots b r w later f h =
      ap decode_of (first_stands memory b (encode_of (fill s r w)) (map encode_of (filled slots later 0 later)) h)
      ∙ fill_back s f.formed.0 r w f.register f.short

  rest_filled : (s : Slot) (slots : List Slot) (b r w later : ℕ) → Stand memory b (map encode_of (filled (s ∷ slots) r w later))
      → Stand memory (suc b) (map encode_of (filled slots later 0 later))
  rest_filled s slots b r w later h k l = let z : suc b + k ≡ b + suc k = omega arith in rw z (h (suc k) (omega arith))

  rest_fillable : (s : Slot) (slots : List Slot) (r w later : ℕ) → Fillable (s ∷ slots) r w later → Fillable slots later 0 later
  rest_fillable s slots r w later f =
      record { formed = f.formed.1; register = f.later_register; short = omega arith; later_register = f.later_register }

  pub filled_stands : (slots : List Slot) (b r w later : ℕ) → Fillable slots r w later
      → Stand memory b (map encode_of (filled slots r w later)) → stands_at memory b slots ≡ true
  unfolding stands_at
  filled_stands [] b r w later f h = refl
  filled_stands (s ∷ slots) b r w later f h =
      let first : fits s (instr_at memory b) ≡ true =
      ap (fits s) (first_filled s slots b r w later f h) ∙ fill_fits s f.formed.0 r w f.register f.short in
      both_true first
      (filled_stands slots (suc b) later 0 later (rest_fillable s slots r w later f) (rest_filled s slots b r w later h))

  -- what holds of each instruction of a filled guard holds of its words
  pub filled_all : (P : Instr → ℕ → Type 0) (slots : List Slot) (b r w later : ℕ) → Fillable slots r w later
      → Stand memory b (map encode_of (filled slots r w later)) → AllAt P (filled slots r w later) b
      → (k : ℕ) → k < length slots → P (instr_at memory (b + k)) (b + k)
  filled_all P [] b r w later f h p k l = absurd (omega arith)
  filled_all P (s ∷ slots) b r w later f h p zero l =
      let z : b + 0 ≡ b = omega arith in
      rw z (subst (λ (i : Instr). P i b) (sym (first_filled s slots b r w later f h)) p.0)
  filled_all P (s ∷ slots) b r w later f h p (suc k) l =
      let z : b + suc k ≡ suc b + k = omega arith in
      rw z
      (filled_all P slots (suc b) later 0 later (rest_fillable s slots r w later f) (rest_filled s slots b r w later h) p.1 k
      (omega arith))
