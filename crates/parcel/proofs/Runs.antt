-- Numbers one after another, over the width: the loops that read and that write them. At the head of a loop, what is still to be stored
-- makes the whole.
use mathlib.Core.Path.{◌≡◌, refl, sym, ap, ap₂, ◌∙◌}
use mathlib.Core.List.{List, [], ◌∷◌}
use Prim.Native.Nat.{ℕ, zero, suc, ◌+◌, ◌-◌, ◌*◌, ◌≤◌, ◌<◌}
use native.Mathlib.Omega.{arith}
use native.Mathlib.Numerals.{add-one}
use native.Mathlib.Nat.{zero-mul, suc-mul, add_comm}
use lib.ListN.{length, get_or, drop, set, length-set, length-append, drop_of_length-le}
use lib.Seq.{drop-drop, drop-cons, sets, length-sets}
use Rattle.parcel.specs.Bytes.{number_of, bytes_of, numbers_of, all_bytes_of}
use Rattle.lists.specs.Places.{put_over}
use Rattle.lists.proofs.Places.{over_front, sets_append}
use Rattle.parcel.proofs.Numbers.{length_bytes}

pub length_numbers : (w k : ℕ) (s : List ℕ) → length (numbers_of w k s) ≡ k
unfolding numbers_of
length_numbers w zero s = refl
length_numbers w (suc k) s = ap suc (length_numbers w k (drop w s))

pub length_all_bytes : (w : ℕ) (xs : List ℕ) → length (all_bytes_of w xs) ≡ length xs * w
unfolding all_bytes_of
length_all_bytes w [] = sym (zero-mul w)
length_all_bytes w (x ∷ xs) =
    length-append (bytes_of w x) (all_bytes_of w xs) ∙ ap₂ (λ (a b : ℕ). a + b) (length_bytes w x) (length_all_bytes w xs)
    ∙ add_comm w (length xs * w) ∙ sym (suc-mul (length xs) w)

-- reading: i of the k numbers of w bytes in s from at are stored
pub record Reading (w : ℕ) (s : List ℕ) (at k : ℕ) (to₀ to : List ℕ) (i : ℕ) : Type 0 where
  pub within : i ≤ k
  pub same : sets to₀ 0 (numbers_of w k (drop at s)) ≡ sets to i (numbers_of w (k - i) (drop (at + i * w) s))
  pub long : length to ≡ length to₀

module _ {w : ℕ} {s : List ℕ} {at k : ℕ} where
  pub reading_goes_on : {to₀ to : List ℕ} {i x : ℕ} → Reading w s at k to₀ to i → i < k → x ≡ number_of w (drop (at + i * w) s) → Reading w s at k to₀ (set to i x) (i + 1)
  unfolding numbers_of
  reading_goes_on {to₀} {to} {i} {x} inv h q =
      let e : k - i ≡ suc (k - (i + 1)) = omega arith in
      let f : at + i * w + w ≡ at + (i + 1) * w = rw (add-one, suc-mul) (omega arith) in
      record {
        within = omega arith;
        same = inv.same ∙ ap (λ (m : ℕ). sets to i (numbers_of w m (drop (at + i * w) s))) e
            ∙ (λ j. sets (set to i (sym q j)) (sym (add-one i) j) (numbers_of w (k - (i + 1)) (drop-drop w (at + i * w) s j)))
            ∙ ap (λ (m : ℕ). sets (set to i x) (i + 1) (numbers_of w (k - (i + 1)) (drop m s))) f;
        long = length-set to i x ∙ inv.long;
      }

  pub reading_ends : {to₀ to : List ℕ} {i : ℕ} → Reading w s at k to₀ to i → k ≤ i → k ≤ length to₀ → to ≡ put_over (numbers_of w k (drop at s)) to₀
  unfolding numbers_of
  reading_ends {to₀} {to} {i} inv h l =
      let e : k - i ≡ 0 = omega arith in
      sym (inv.same ∙ ap (λ (m : ℕ). sets to i (numbers_of w m (drop (at + i * w) s))) e)
      ∙ over_front (numbers_of w k (drop at s)) to₀ (rw length_numbers l)

-- writing: the bytes of i of the numbers xs are stored from at on
pub record Writing (w : ℕ) (xs : List ℕ) (at : ℕ) (s₀ s : List ℕ) (i : ℕ) : Type 0 where
  pub within : i ≤ length xs
  pub same : sets s₀ at (all_bytes_of w xs) ≡ sets s (at + i * w) (all_bytes_of w (drop i xs))
  pub long : length s ≡ length s₀

module _ {w : ℕ} {xs : List ℕ} {at : ℕ} where
  pub writing_goes_on : {s₀ s s' : List ℕ} {i : ℕ} → Writing w xs at s₀ s i → i < length xs → s' ≡ sets s (at + i * w) (bytes_of w (get_or xs i 0)) → Writing w xs at s₀ s' (i + 1)
  unfolding all_bytes_of
  writing_goes_on {s₀} {s} {s'} {i} inv h q =
      let b = bytes_of w (get_or xs i 0) in
      let f : at + i * w + length b ≡ at + (i + 1) * w = rw (length_bytes, add-one, suc-mul) (omega arith) in
      record {
        within = omega arith;
        same = inv.same ∙ ap (λ (l : List ℕ). sets s (at + i * w) (all_bytes_of w l)) (drop-cons xs i 0 h)
            ∙ sets_append b (all_bytes_of w (drop (suc i) xs)) s (at + i * w)
            ∙ (λ j. sets (sym q j) (f j) (all_bytes_of w (drop (sym (add-one i) j) xs)));
        long = ap length q ∙ length-sets s (at + i * w) b ∙ inv.long;
      }

  pub writing_ends : {s₀ s : List ℕ} {i : ℕ} → Writing w xs at s₀ s i → length xs ≤ i → s ≡ sets s₀ at (all_bytes_of w xs)
  unfolding all_bytes_of
  writing_ends {s₀} {s} {i} inv h =
      sym (inv.same ∙ ap (λ (l : List ℕ). sets s (at + i * w) (all_bytes_of w l)) (drop_of_length-le xs h))
