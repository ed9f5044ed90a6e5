-- Bytes put as they are, a part after another: two parts in a row are one.
use mathlib.Core.Path.{◌≡◌, sym, ap, subst, ◌∙◌}
use mathlib.Core.List.{List, ◌++◌}
use Prim.Native.Nat.{ℕ, suc, ◌+◌, ◌-◌, ◌*◌, ◌/◌, ◌≤◌, ◌<◌}
use native.Mathlib.Omega.{arith}
use native.Mathlib.Nat.{add-zero, suc-mul, mul-le-mul_right}
use lib.ListN.{length, take, drop}
use lib.Seq.{drop-drop, take-add, take-length, sets}
use Rattle.std.proofs.Math.Nat.{div-mul-le_self, lt-div-mul-add}
use Rattle.std.proofs.lemmas.List.{length-take-le, length-drop}
use Rattle.lists.proofs.Places.{sets_append}
use Rattle.editions.specs.Inside.{Copied}

-- one more part of n bytes is within, where it is one of those that there are
pub part_within : (k x n : ℕ) → k < x / n → k * n + n ≤ x
part_within k x n l = let s : k * n + n ≡ suc k * n = sym (suc-mul k n) in omega (arith, mul-le-mul_right n l, div-mul-le_self x n)

-- and after them fewer than n are left
pub parts_left : (x n : ℕ) → 1 ≤ n → (x / n * n ≤ x) × (x < x / n * n + n)
parts_left x n l = (div-mul-le_self x n, lt-div-mul-add l)

module _ {s : List ℕ} {at i : ℕ} {t : List ℕ} where
  pub copied_none : Copied s at i t t i
  copied_none = let e : i - i ≡ 0 = omega arith in record { bytes = ap (λ (n : ℕ). sets t (at + i) (take n (drop i s))) (sym e) }

  joined : {t₁ t₂ : List ℕ} {j k : ℕ} → i ≤ j → j ≤ k → k ≤ length s → Copied s at i t t₁ j → Copied s at j t₁ t₂ k → Copied s at i t t₂ k
  joined {t₁} {t₂} {j} {k} p q r first second =
      let one : List ℕ = take (j - i) (drop i s) in
      let two : List ℕ = take (k - j) (drop j s) in
      let long : length one ≡ j - i = length-take-le (j - i) (drop i s) (omega (arith, length-drop i s)) in
      let next : at + i + length one ≡ at + j = omega (arith, long) in
      let rest : drop (j - i) (drop i s) ≡ drop j s = drop-drop (j - i) i s ∙ ap (λ (n : ℕ). drop n s) (omega arith) in
      let both : (j - i) + (k - j) ≡ k - i = omega arith in
      record {
        bytes =
            second.bytes
            ∙ (λ l. sets (first.bytes l) (sym next l) two)
            ∙ sym (sets_append one two t (at + i))
            ∙ ap (λ (b : List ℕ). sets t (at + i) (one ++ take (k - j) b)) (sym rest)
            ∙ ap (sets t (at + i)) (sym (take-add (j - i) (k - j) (drop i s)) ∙ ap (λ (n : ℕ). take n (drop i s)) both);
      }

  -- one more part
  pub copied_more : (n : ℕ) {t₁ t₂ : List ℕ} {k : ℕ} → i ≤ length s → k < (length s - i) / n → Copied s at i t t₁ (i + k * n)
      → t₂ ≡ sets t₁ (at + (i + k * n)) (take n (drop (i + k * n) s)) → Copied s at i t t₂ (i + (k + 1) * n)
  copied_more n {t₁} {t₂} {k} l m first put =
      let j : ℕ = i + k * n in
      let within : k * n + n ≤ length s - i = part_within k (length s - i) n m in
      let up : suc k ≡ k + 1 = omega arith in
      let end : j + n ≡ i + (k + 1) * n = omega (arith, suc-mul k n) ∙ ap (λ (m : ℕ). i + m * n) up in
      let part : n ≡ j + n - j = omega arith in
      let second : Copied s at j t₁ t₂ (j + n) = record { bytes = put ∙ ap (λ (m : ℕ). sets t₁ (at + j) (take m (drop j s))) part } in
      subst (λ (m : ℕ). Copied s at i t t₂ m) end (joined (omega arith) (omega arith) (omega (arith, within)) first second)

-- parts of three sizes one after another, to the end, are all the bytes
pub copied_all : {s : List ℕ} {at : ℕ} {t t₁ t₂ t₃ : List ℕ} {i j k : ℕ} → i ≤ j → j ≤ k → k ≤ length s → length s < k + 1
    → Copied s at 0 t t₁ i → Copied s at i t₁ t₂ j → Copied s at j t₂ t₃ k → t₃ ≡ sets t at s
copied_all {s} {at} {t} {t₁} {t₂} {t₃} {i} {j} {k} p q r few first second third =
    let all : k - 0 ≡ length s = omega arith in
    (joined (omega arith) q r (joined (omega arith) p (omega arith) first second) third).bytes
    ∙ (λ l. sets t (add-zero at l) (take (all l) s))
    ∙ ap (sets t at) (take-length s)
