-- Words counted by their kinds: one word more counts at its kind's place alone, and so the kinds add up.
use Prim.Native.Nat.{ℕ, zero, suc, ◌+◌, ◌≤◌}
use mathlib.Core.Path.{◌≡◌, refl, sym, ap, ap₂, ◌∙◌}
use mathlib.Core.Bool.{Bool, true, false, cond}
use mathlib.Core.List.{List, [], ◌∷◌, map}
use native.Mathlib.Omega.{arith}
use native.Mathlib.Numerals.{add-one}
use lib.ListN.{get_or, set, replicate}
use Rattle.lists.specs.Search.{bit, count}
use Rattle.lists.proofs.Counts.{count_more, count_max}
use Rattle.isa.specs.declared.Kind.{Kind}
use Rattle.isa.specs.Words.{same_kind, fields_of}
use Rattle.isa.specs.Instructions.{instr_at, is_kind}
use Rattle.report.specs.Figures.{table_kinds, words_of_kind, kinds_of}
use Rattle.report.specs.Theorems.{sum, KindsAddUp}
use Rattle.report.specs.Inside.{row_of}

-- a number for each kind, in the table's sequence: that of one kind stands in its row
row_is : (f : Kind → ℕ) (k : Kind) → get_or (map f table_kinds) (row_of k) 0 ≡ f k
row_is f Kind.Label = refl
row_is f Kind.Add = refl
row_is f Kind.Addi = refl
row_is f Kind.Movi = refl
row_is f Kind.Bgt = refl
row_is f Kind.Jd = refl
row_is f Kind.Jmp = refl
row_is f Kind.Ld = refl
row_is f Kind.St = refl
row_is f Kind.Call = refl
row_is f Kind.Ret = refl
row_is f Kind.Unknown = refl

-- one more at the kind k
abbrev more : (Kind → ℕ) → Kind → Kind → ℕ
more f k l = cond (same_kind l k) (f l + 1) (f l)

row_more : (f : Kind → ℕ) (k : Kind) → set (map f table_kinds) (row_of k) (f k + 1) ≡ map (more f k) table_kinds
row_more f Kind.Label = refl
row_more f Kind.Add = refl
row_more f Kind.Addi = refl
row_more f Kind.Movi = refl
row_more f Kind.Bgt = refl
row_more f Kind.Jd = refl
row_more f Kind.Jmp = refl
row_more f Kind.Ld = refl
row_more f Kind.St = refl
row_more f Kind.Call = refl
row_more f Kind.Ret = refl
row_more f Kind.Unknown = refl

sum_more : (f : Kind → ℕ) (k : Kind) → sum (map (more f k) table_kinds) ≡ sum (map f table_kinds) + 1
unfolding sum
sum_more f Kind.Label = omega arith
sum_more f Kind.Add = omega arith
sum_more f Kind.Addi = omega arith
sum_more f Kind.Movi = omega arith
sum_more f Kind.Bgt = omega arith
sum_more f Kind.Jd = omega arith
sum_more f Kind.Jmp = omega arith
sum_more f Kind.Ld = omega arith
sum_more f Kind.St = omega arith
sum_more f Kind.Call = omega arith
sum_more f Kind.Ret = omega arith
sum_more f Kind.Unknown = omega arith

map_same : (f g : Kind → ℕ) (xs : List Kind) → ((k : Kind) → f k ≡ g k) → map f xs ≡ map g xs
map_same f g [] h = refl
map_same f g (x ∷ xs) h = ap₂ (λ (y : ℕ) (ys : List ℕ). y ∷ ys) (h x) (map_same f g xs h)

module _ (memory : List ℕ) where
  abbrev kind_at : ℕ → Kind
  kind_at a = (fields_of (instr_at memory a)).kind

  word_more : (a : ℕ) (l : Kind) → more (words_of_kind memory a) (kind_at a) l ≡ words_of_kind memory (a + 1) l
  unfolding words_of_kind
  word_more a l =
      go (is_kind l (instr_at memory a)) (count (λ x. is_kind l (instr_at memory x)) a)
      ∙ sym (count_more (λ x. is_kind l (instr_at memory x)) a)
    where
      go : (b : Bool) (c : ℕ) → cond b (c + 1) c ≡ bit b + c
      go true c = omega arith
      go false c = omega arith

  kinds_more : (a : ℕ) → map (more (words_of_kind memory a) (kind_at a)) table_kinds ≡ kinds_of memory (a + 1)
  kinds_more a = map_same _ _ table_kinds (word_more a)

  -- the count of a row, which is no more than the words looked at; and one word more
  pub row_count : (a r : ℕ) (k : Kind) → r ≡ row_of k → get_or (kinds_of memory a) r 0 ≡ words_of_kind memory a k
  row_count a r k e = ap (λ (x : ℕ). get_or (kinds_of memory a) x 0) e ∙ row_is (words_of_kind memory a) k

  pub kind_max : (a : ℕ) (k : Kind) → words_of_kind memory a k ≤ a
  unfolding words_of_kind
  kind_max a k = count_max (λ x. is_kind k (instr_at memory x)) a

  pub row_max : {kinds : List ℕ} {a : ℕ} (r : ℕ) → kinds ≡ kinds_of memory a → get_or kinds r 0 ≤ a
  row_max {kinds} {a} r e = rw e (go table_kinds r)
    where
      go : (ks : List Kind) (r : ℕ) → get_or (map (words_of_kind memory a) ks) r 0 ≤ a
      go [] r = omega arith
      go (k ∷ ks) zero = kind_max a k
      go (k ∷ ks) (suc r) = go ks r

  pub kinds_none : replicate 12 0 ≡ kinds_of memory 0
  unfolding words_of_kind count
  kinds_none = refl

  pub kinds_step : (a r v : ℕ) (k : Kind) → k ≡ kind_at a → r ≡ row_of k → v ≡ get_or (kinds_of memory a) r 0 + 1
      → set (kinds_of memory a) r v ≡ kinds_of memory (a + 1)
  kinds_step a r v k ek er ev =
      ap₂ (λ (x y : ℕ). set (kinds_of memory a) x y) er (ev ∙ ap (λ (x : ℕ). x + 1) (row_count a r k er))
      ∙ row_more (words_of_kind memory a) k
      ∙ ap (λ (x : Kind). map (more (words_of_kind memory a) x) table_kinds) ek
      ∙ kinds_more a

pub kinds_add_up : KindsAddUp
unfolding sum words_of_kind count
kinds_add_up memory zero = refl
kinds_add_up memory (suc n) =
    ap (λ (x : ℕ). sum (kinds_of memory x)) (sym (add-one n))
    ∙ ap sum (sym (kinds_more memory n))
    ∙ sum_more (words_of_kind memory n) (kind_at memory n)
    ∙ ap (λ (x : ℕ). x + 1) (kinds_add_up memory n)
    ∙ add-one n
