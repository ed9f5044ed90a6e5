-- A long input is read as its front is: each count stands in the front, and so does all that a section may hold.
use Prim.Native.Nat.{ℕ, zero, suc, ◌+◌, ◌*◌, ◌-◌, ◌≤◌}
use mathlib.Core.Path.{◌≡◌, refl, sym, ◌∙◌}
use mathlib.Core.Bool.{Bool, true, false, cond, ◌||◌}
use mathlib.Core.List.{List, [], ◌∷◌}
use native.Mathlib.Omega.{arith}
use native.Mathlib.Nat.{mul-le-mul_right}
use lib.Dec.{ltb}
use lib.ListN.{length, take, drop, length-drop}
use lib.Seq.{length-take-le}
use borrow.Author.Tests.{le-ltb, ltb-false}
use Rattle.lists.proofs.Bools.{or_right}
use Rattle.answers.specs.declared.Refusal.{Refusal}
use Rattle.parcel.specs.Bytes.{number_of}
use Rattle.parcel.specs.Parcel.{count_of, read_of}
use Rattle.std.specs.Prelude.{Result, Ok, Err}
use Rattle.parcel.proofs.Contents.{counted, code_refused, edges_refused, data_refused, bytes_left}
use Rattle.parcel.proofs.Numbers.{number_front}
use Rattle.parcel.specs.Theorems.{FrontSuffices}

drop_front : (at k : ℕ) (u : List ℕ) → at ≤ k → drop at (take k u) ≡ take (k - at) (drop at u)
drop_front zero k u h = let e : k - 0 ≡ k = omega arith in rw e
drop_front (suc at) zero u h = absurd (omega arith)
drop_front (suc at) (suc k) [] h = take_nil (suc k - suc at)
  where
    take_nil : (j : ℕ) → ◌≡◌ {A = List ℕ} [] (take j [])
    take_nil zero = refl
    take_nil (suc j) = refl
drop_front (suc at) (suc k) (x ∷ u) h = let e : suc k - suc at ≡ k - at = omega arith in rw e (drop_front at k u (omega arith))

-- a count in a front that has room for all that the section may hold
front_count : (size low j : ℕ) (u : List ℕ) → 4 + 2048 * size ≤ j → j ≤ length u
    → count_of size low (take j u) ≡ count_of size low u
unfolding count_of
front_count size low j u h l =
    let x = number_of 4 u in
    let len : length (take j u) ≡ j = length-take-le j u l in
    let front : number_of 4 (take j u) ≡ x = number_front 4 j u (omega arith) in
    rw (len, front, le-ltb j 4 (omega arith), le-ltb (length u) 4 (omega arith)) (go (ltb x low || ltb 2048 x) refl)
  where
    go : (b : Bool) → (ltb (number_of 4 u) low || ltb 2048 (number_of 4 u)) ≡ b
        → cond b (Err Refusal.CountLimit)
        (cond (ltb (j - 4) (number_of 4 u * size)) (Err Refusal.ItemsMissing) (Ok (number_of 4 u)))
        ≡ cond b (Err Refusal.CountLimit)
        (cond (ltb (length u - 4) (number_of 4 u * size)) (Err Refusal.ItemsMissing) (Ok (number_of 4 u)))
    go true e = refl
    go false e =
        let m : number_of 4 u * size ≤ 2048 * size = mul-le-mul_right size (ltb-false 2048 (number_of 4 u) (or_right (ltb (number_of 4 u) low) _ e)) in
        rw (le-ltb (j - 4) (number_of 4 u * size) (omega arith), le-ltb (length u - 4) (number_of 4 u * size) (omega arith))

module _ (s : List ℕ) (k : ℕ) (long : 40973 ≤ k) (within : k ≤ length s) where
  count_at : (size low at : ℕ) → at + (4 + 2048 * size) ≤ k → count_of size low (drop at (take k s)) ≡ count_of size low (drop at s)
  count_at size low at h =
      rw (drop_front at k s (omega arith))
      (front_count size low (k - at) (drop at s) (omega arith) (simp length-drop (omega arith)))

  length_front : length (take k s) ≡ k
  length_front = length-take-le k s within

  data_case : (n e : ℕ) → n ≤ 2048 → e ≤ 2048 → count_of 8 1 s ≡ Ok n → count_of 8 1 (take k s) ≡ Ok n
      → count_of 4 0 (drop (4 + n * 8) s) ≡ Ok e → count_of 4 0 (drop (4 + n * 8) (take k s)) ≡ Ok e
      → (c : Result ℕ Refusal) → count_of 8 0 (drop (4 + n * 8 + (4 + e * 4)) s) ≡ c → read_of 2 (take k s) ≡ read_of 2 s
  data_case n e hn he a a' b b' (Err why) q =
      data_refused 2 (take k s) a' b' (count_at 8 0 (4 + n * 8 + (4 + e * 4)) (omega arith) ∙ q) ∙ sym (data_refused 2 s a b q)
  data_case n e hn he a a' b b' (Ok d) q =
      let hd = (counted 8 0 (drop (4 + n * 8 + (4 + e * 4)) s) q).upto in
      bytes_left 2 (take k s) a' b' (count_at 8 0 (4 + n * 8 + (4 + e * 4)) (omega arith) ∙ q) (rw length_front (omega arith))
      ∙ sym (bytes_left 2 s a b q (omega arith))

  edges_case : (n : ℕ) → n ≤ 2048 → count_of 8 1 s ≡ Ok n → count_of 8 1 (take k s) ≡ Ok n
      → (c : Result ℕ Refusal) → count_of 4 0 (drop (4 + n * 8) s) ≡ c → read_of 2 (take k s) ≡ read_of 2 s
  edges_case n hn a a' (Err why) q =
      edges_refused 2 (take k s) a' (count_at 4 0 (4 + n * 8) (omega arith) ∙ q) ∙ sym (edges_refused 2 s a q)
  edges_case n hn a a' (Ok e) q =
      data_case n e hn (counted 4 0 (drop (4 + n * 8) s) q).upto a a' q (count_at 4 0 (4 + n * 8) (omega arith) ∙ q) _ refl

  code_case : (c : Result ℕ Refusal) → count_of 8 1 s ≡ c → read_of 2 (take k s) ≡ read_of 2 s
  code_case (Err why) q = code_refused 2 (take k s) (count_at 8 1 0 (omega arith) ∙ q) ∙ sym (code_refused 2 s q)
  code_case (Ok n) q =
      edges_case n (counted 8 1 s q).upto q (count_at 8 1 0 (omega arith) ∙ q) _ refl

pub front_suffices : FrontSuffices
front_suffices s k long within = code_case s k long within _ refl
