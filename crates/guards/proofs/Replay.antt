-- Falling through words of the checked code, seen on r0, r1 and r2: what each word does to them, one after another, and what the
-- words of a guard sequence are. Bus writes reach none of the three, so the view `take 3` does not see them.
use Prim.Native.Nat.{ℕ, zero, suc, ◌+◌, ◌≤◌, ◌<◌}
use mathlib.Core.Path.{◌≡◌, refl, sym, ap, subst, ◌∙◌}
use mathlib.Core.Bool.{true}
use mathlib.Core.List.{List, [], ◌∷◌, ◌++◌}
use native.Mathlib.Omega.{arith}
use native.Mathlib.Decide.{dec_lt}
use lib.ListN.{length, get_or, set, take, length-take}
use lib.Seq.{take-set-lt, take-set-le, set_out}
use Rattle.lists.proofs.Bools.{clash, and_left, and_right}
use Rattle.isa.specs.declared.Instr.{Instr}
use Rattle.isa.specs.Instructions.{instr_at}
use Rattle.guards.specs.declared.Slot.{Slot}
use Rattle.guards.specs.Sequences.{fits, stands_at}
use Rattle.guards.proofs.Fits.{filled, fits_filled}

-- the distinguished registers
abbrev pub view : List ℕ → List ℕ
view registers = take 3 registers

pub view_set : (registers : List ℕ) (r x : ℕ) → set (view registers) r x ≡ view (set registers r x)
view_set registers r x = go (dec_lt r 3)
  where
    go : Dec (r < 3) → set (view registers) r x ≡ view (set registers r x)
    go (yes h) = sym (take-set-lt 3 registers r x h)
    go (no h) = set_out (view registers) r x (omega (arith, length-take 3 registers)) ∙ sym (take-set-le 3 registers r x (omega arith))

-- Falling through a word takes distinguished registers l to some that `after` holds of. A bgt was not taken; what a load finds in
-- code is the checked word.
abbrev pub Falls : List ℕ → ℕ → Instr → (List ℕ → Type 0) → List ℕ → Type 0
Falls memory n (Instr.Label w) after l = after l
Falls memory n (Instr.Add rd rs rt) after l = (v : ℕ) × after (set l rd v)
Falls memory n (Instr.Addi rd rs w) after l = (v : ℕ) × after (set l rd v)
Falls memory n (Instr.Movi rd w) after l = after (set l rd w)
Falls memory n (Instr.Bgt rs rt w) after l = (rs < 3 → rt < 3 → get_or l rs 0 ≤ get_or l rt 0) × after l
Falls memory n (Instr.Jd w) after l = after l
Falls memory n (Instr.Jmp rs) after l = after l
Falls memory n (Instr.Ld rd rs w) after l =
    (v : ℕ) × (rs < 3 → get_or l rs 0 + w < n → v ≡ get_or memory (get_or l rs 0 + w) 0) × after (set l rd v)
Falls memory n (Instr.St rd rs w) after l = after l
Falls memory n (Instr.Call w) after l = after l
Falls memory n Instr.Ret after l = after l
Falls memory n Instr.Illegal after l = after l

falls_map : (memory : List ℕ) (n : ℕ) (P Q : List ℕ → Type 0) → ((l : List ℕ) → P l → Q l) → (i : Instr) (l : List ℕ)
    → Falls memory n i P l → Falls memory n i Q l
falls_map memory n P Q f (Instr.Label w) l h = f _ h
falls_map memory n P Q f (Instr.Add rd rs rt) l h = (h.0, f _ h.1)
falls_map memory n P Q f (Instr.Addi rd rs w) l h = (h.0, f _ h.1)
falls_map memory n P Q f (Instr.Movi rd w) l h = f _ h
falls_map memory n P Q f (Instr.Bgt rs rt w) l h = (h.0, f _ h.1)
falls_map memory n P Q f (Instr.Jd w) l h = f _ h
falls_map memory n P Q f (Instr.Jmp rs) l h = f _ h
falls_map memory n P Q f (Instr.Ld rd rs w) l h = (h.0, h.1, f _ h.2)
falls_map memory n P Q f (Instr.St rd rs w) l h = f _ h
falls_map memory n P Q f (Instr.Call w) l h = f _ h
falls_map memory n P Q f Instr.Ret l h = f _ h
falls_map memory n P Q f Instr.Illegal l h = f _ h

-- falling through the words takes l to m
abbrev pub Replay : List ℕ → ℕ → List Instr → List ℕ → List ℕ → Type 0
Replay memory n [] l m = l ≡ m
Replay memory n (i ∷ is) l m = Falls memory n i (λ k. Replay memory n is k m) l

replay_more : (memory : List ℕ) (n : ℕ) (i : Instr) (m k : List ℕ) → Falls memory n i (λ x. x ≡ k) m → (is : List Instr) (l : List ℕ)
    → Replay memory n is l m → Replay memory n (is ++ i ∷ []) l k
replay_more memory n i m k q [] l r = rw r q
replay_more memory n i m k q (j ∷ is) l r =
    falls_map memory n (λ x. Replay memory n is x m) (λ x. Replay memory n (is ++ i ∷ []) x k)
    (λ x p. replay_more memory n i m k q is x p) j l r

-- k words of the checked code from address b on
abbrev pub words_at : List ℕ → ℕ → ℕ → List Instr
words_at memory b zero = []
words_at memory b (suc k) = instr_at memory b ∷ words_at memory (suc b) k

words_more : (memory : List ℕ) (b k : ℕ) → words_at memory b (suc k) ≡ words_at memory b k ++ instr_at memory (b + k) ∷ []
words_more memory b zero = let z : b + 0 ≡ b = omega arith in rw z
words_more memory b (suc k) =
    let z : b + suc k ≡ suc b + k = omega arith in rw z (ap (λ (is : List Instr). instr_at memory b ∷ is) (words_more memory (suc b) k))

-- falling through k words from b on has led here, from some values of the three
pub record Fallen (memory : List ℕ) (n b k : ℕ) (m : List ℕ) : Type 0 where
  pub x : ℕ
  pub y : ℕ
  pub z : ℕ
  pub replayed : Replay memory n (words_at memory b k) (x ∷ y ∷ z ∷ []) m

three : (l : List ℕ) → 3 ≤ length l → get_or l 0 0 ∷ get_or l 1 0 ∷ get_or l 2 0 ∷ [] ≡ view l
three [] h = clash (omega arith)
three (a ∷ []) h = clash (omega arith)
three (a ∷ b ∷ []) h = clash (omega arith)
three (a ∷ b ∷ c ∷ l) h = refl

pub fallen_none : (memory : List ℕ) (n b : ℕ) (registers : List ℕ) → 3 ≤ length registers → Fallen memory n b 0 (view registers)
fallen_none memory n b registers h =
    record { x = get_or registers 0 0; y = get_or registers 1 0; z = get_or registers 2 0; replayed = three registers h }

pub fallen_more : (memory : List ℕ) (n b k : ℕ) (m m' : List ℕ) → Fallen memory n b k m
    → Falls memory n (instr_at memory (b + k)) (λ x. x ≡ m') m → Fallen memory n b (suc k) m'
fallen_more memory n b k m m' f q =
    record {
      x = f.x;
      y = f.y;
      z = f.z;
      replayed =
          subst (λ (is : List Instr). Replay memory n is (f.x ∷ f.y ∷ f.z ∷ []) m') (sym (words_more memory b k))
          (replay_more memory n (instr_at memory (b + k)) m m' q (words_at memory b k) (f.x ∷ f.y ∷ f.z ∷ []) f.replayed);
    }

-- the words of a sequence that stands in memory
abbrev pub filled_from : List ℕ → ℕ → List Slot → List Instr
filled_from memory b [] = []
filled_from memory b (s ∷ slots) = filled s (instr_at memory b) ∷ filled_from memory (suc b) slots

pub words_filled : (memory : List ℕ) (b : ℕ) (slots : List Slot) → stands_at memory b slots ≡ true
    → words_at memory b (length slots) ≡ filled_from memory b slots
unfolding stands_at
words_filled memory b [] e = refl
words_filled memory b (s ∷ slots) e =
    let here = fits_filled s (instr_at memory b) (and_left _ _ e) in
    let more = words_filled memory (suc b) slots (and_right (fits s (instr_at memory b)) _ e) in
    ap (λ (i : Instr). i ∷ words_at memory (suc b) (length slots)) here ∙ ap (λ (is : List Instr). filled s (instr_at memory b) ∷ is) more
