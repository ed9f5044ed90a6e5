-- Laws of stores in a row: one list after another is the two put together, and from the front on they are what `put_over` leaves.
use Rattle.std.proofs.Common.{ℕ, suc, ◌+◌, ◌≤◌, ◌≡◌, sym, ap, ◌∙◌, List, [], ◌∷◌, ◌++◌, take, arith}
use mathlib.Core.List.{append_assoc}
use borrow.Rule.Slice.PartMut.{put_mid}
use native.Mathlib.Nat.{zero-add, suc-add, add-zero, add-suc}
use lib.ListN.{length, drop, set}
use lib.Seq.{sets, sets-eq, drop-drop}
use Rattle.lists.specs.Places.{put_over}

pub sets_append : (a b l : List ℕ) (i : ℕ) → sets l i (a ++ b) ≡ sets (sets l i a) (i + length a) b
sets_append [] b l i = ap (λ (n : ℕ). sets l n b) (sym (add-zero i))
sets_append (x ∷ a) b l i =
    sets_append a b (set l i x) (suc i)
    ∙ ap (λ (n : ℕ). sets (sets (set l i x) (suc i) a) n b) (suc-add i (length a) ∙ sym (add-suc i (length a)))

pub over_front : (xs l : List ℕ) → length xs ≤ length l → sets l 0 xs ≡ put_over xs l
over_front xs l h = sets-eq xs l 0 (omega arith) ∙ ap (λ (n : ℕ). xs ++ drop n l) (zero-add (length xs))

-- a part replaced by as many numbers
pub put_part : (a k : ℕ) (xs ys : List ℕ) → length ys ≡ k → a + k ≤ length xs → put_mid a k xs ys ≡ sets xs a ys
put_part a k xs ys e l =
    let f : a + length ys ≤ length xs = omega (arith, e) in
    ap (λ (p : List ℕ). take a xs ++ (ys ++ p)) (drop-drop k a xs ∙ ap (λ (n : ℕ). drop (a + n) xs) (sym e))
    ∙ sym (append_assoc (take a xs) ys (drop (a + length ys) xs))
    ∙ sym (sets-eq ys xs a f)
