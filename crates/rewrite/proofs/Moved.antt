-- Words made from words: a branch with another target, over any kind whose w is named; the first word of a guard with a register in it.
use Prim.Native.Nat.{ℕ, ◌+◌, ◌-◌, ◌*◌, ◌/◌, ◌%◌, ◌^◌, ◌<◌}
use mathlib.Core.Path.{◌≡◌, refl, sym, ap, ◌∙◌}
use mathlib.Core.Bool.{Bool, true, false}
use mathlib.Core.List.{List, [], ◌∷◌, map}
use native.Mathlib.Omega.{arith}
use lib.ListN.{get_or}
use borrow.Author.Tests.{lt-ltb, ltb-true, leb-false}
use Rattle.isa.specs.declared.Kind.{Kind}
use Rattle.isa.specs.declared.Instr.{Instr}
use Rattle.isa.specs.declared.Fields.{Fields}
use Rattle.isa.specs.declared.Technique.{Technique}
use Rattle.isa.specs.Words.{named_by, known, exact, fields, pack, instr_of, fields_of, decode_of, word_of, encode_of}
use Rattle.isa.specs.Instructions.{is_kind, is_jump, is_branch, branch_target}
use Rattle.isa.proofs.Words.{fields_as, pack_split, exact_back, fit}
use Rattle.isa.proofs.ByKind.{kind_formed, kind_decode, branch_low}
use Rattle.guards.specs.Sequences.{jump_guard}
use Rattle.guards.specs.Patterns as patterns
use Rattle.guarded.specs.Rewrite.{filled, with_target, jump_words}
use Rattle.guarded.specs.Rules.{outside}
use Rattle.guarded.proofs.Cases.{target_of_lem}

-- the fields of an exact form are a word
exact_word : (f : Fields) → exact f ≡ true → encode_of (instr_of f) ≡ pack f
unfolding encode_of word_of
exact_word f e = rw (exact_back f e, e)

-- a word of kind k, its w named, with another w
module _ (k : Kind) (hk : known k ≡ true) (named : (named_by k).w ≡ true) (x : ℕ) (h : is_kind k (decode_of x) ≡ true) (w : ℕ) where
  abbrev other : Fields
  other = fields k (x / 2 ^ 48 % 256) (x / 2 ^ 40 % 256) (x / 2 ^ 32 % 256) w

  other_exact : exact other ≡ true
  other_exact = rw named (rw named at (kind_formed k hk x h).1)

  kind_moved : x - x % 2 ^ 32 + w ≡ encode_of (with_target (decode_of x) w)
  kind_moved =
      let p = kind_formed k hk x h in
      let i : fields_of (decode_of x) ≡ fields_as k x = ap fields_of (kind_decode k hk x h) ∙ exact_back (fields_as k x) p.1 in
      let q : x - x % 2 ^ 32 + w ≡ pack other = omega (arith, pack_split x k p.0) in
      q ∙ sym (ap (λ (f : Fields). encode_of (instr_of (fields f.kind f.a f.b f.c w))) i ∙ exact_word other other_exact)

pub branch_moved : (x w : ℕ) → is_branch (decode_of x) ≡ true → x - x % 2 ^ 32 + w ≡ encode_of (with_target (decode_of x) w)
branch_moved x w h = go (is_kind Kind.Bgt (decode_of x)) (is_kind Kind.Jd (decode_of x)) refl refl
  where
    go : (b j : Bool) → is_kind Kind.Bgt (decode_of x) ≡ b → is_kind Kind.Jd (decode_of x) ≡ j
        → x - x % 2 ^ 32 + w ≡ encode_of (with_target (decode_of x) w)
    go true j e f = kind_moved Kind.Bgt refl refl x e w
    go false true e f = kind_moved Kind.Jd refl refl x f w
    go false false e f = kind_moved Kind.Call refl refl x (rw (e, f) at h) w

-- its target, read off the word
pub branch_w : (x : ℕ) → is_branch (decode_of x) ≡ true → (fields_of (decode_of x)).w ≡ x % 2 ^ 32
branch_w x h = (target_of_lem (decode_of x) (x % 2 ^ 32) (branch_low x h)).1

pub target_low : (x n : ℕ) → is_branch (decode_of x) ≡ true → outside n (branch_target (decode_of x)) ≡ false → x % 2 ^ 32 < n
target_low x n h o = leb-false n (x % 2 ^ 32) (rw (branch_low x h) at o)

-- the words of a jmp's guard, its register put into the first
addi_register : (rs : ℕ) → rs < 32 → encode_of (Instr.Addi 0 0 0) + rs * 2 ^ 40 ≡ encode_of (Instr.Addi 0 rs 0)
unfolding encode_of word_of
addi_register rs h = rw (lt-ltb rs 32 h) (omega arith)

pub first_small : (n : ℕ) {words : List ℕ} → words ≡ patterns.jump_words Technique.Plain n → get_or words 0 0 < 2 ^ 63
unfolding encode_of word_of
first_small n e = rw e (omega arith)

jump_register : (x : ℕ) → is_jump (decode_of x) ≡ true → ((fields_of (decode_of x)).a ≡ x / 2 ^ 48 % 256) × (x / 2 ^ 48 % 256 < 32)
jump_register x h =
    let p = kind_formed Kind.Jmp refl x h in
    (ap (λ (i : Instr). (fields_of i).a) (kind_decode Kind.Jmp refl x h), ltb-true (x / 2 ^ 48 % 256) 32 (fit (fields_as Kind.Jmp x) p.1).a_fits)

pub guard_words : (x n id : ℕ) (words : List ℕ) (apart : ℕ) → is_jump (decode_of x) ≡ true → words ≡ patterns.jump_words Technique.Plain n
    → apart ≡ encode_of (Instr.Movi 2 id)
    → (get_or words 0 0 + x / 2 ^ 48 % 256 * 2 ^ 40) ∷ get_or words 1 0 ∷ apart ∷ get_or words 3 0 ∷ get_or words 4 0 ∷ get_or words 5 0 ∷ []
    ≡ jump_words Technique.Plain n id (decode_of x)
guard_words x n id words apart h ew ea =
    let r = jump_register x h in
    rw (ew, ea, r.0)
    (ap (λ (first : ℕ). first ∷ map encode_of (tail (filled (jump_guard Technique.Plain n id) 0 0 0))) (addi_register (x / 2 ^ 48 % 256) r.1))
  where
    tail : List Instr → List Instr
    tail [] = []
    tail (i ∷ is) = is
