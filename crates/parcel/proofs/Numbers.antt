-- One number in bytes, over the width: it is two numbers one after the other, and it has that many bytes. By induction on the width.
use mathlib.Core.Path.{◌≡◌, refl, sym, ap, ap₂, ◌∙◌}
use mathlib.Core.List.{List, [], ◌∷◌}
use Prim.Native.Nat.{ℕ, zero, suc, ◌+◌, ◌-◌, ◌*◌, ◌/◌, ◌%◌, ◌^◌, ◌≤◌}
use native.Mathlib.Omega.{arith}
use native.Mathlib.Nat.{pow-suc, zero-add, suc-add, add-zero, mul_assoc, div-one, div-div-eq-div-mul}
use lib.ListN.{length, get_or, take, drop}
use lib.Seq.{drop-drop, get_or-drop, sets}
use borrow.Rule.Slice.PartMut.{put_mid}
use Rattle.lists.proofs.Places.{put_part}
use Rattle.std.specs.Int.{sum_through, byte_worth, byte_at, bytes_low_first}
use Rattle.std.specs.List.{slice_index}
use native.Mathlib.Numerals.{add-one}
use Rattle.parcel.specs.Bytes.{number_of, bytes_of}

pub length_bytes : (w x : ℕ) → length (bytes_of w x) ≡ w
unfolding bytes_of
length_bytes zero x = refl
length_bytes (suc w) x = ap suc (length_bytes w (x / 256))

number_split : (a b : ℕ) (s : List ℕ) → number_of (a + b) s ≡ number_of a s + number_of b (drop a s) * 256 ^ a
unfolding number_of
number_split zero b s = ap (λ (n : ℕ). number_of n s) (zero-add b) ∙ omega arith
number_split (suc a) b s =
    let rest = number_of b (drop a (drop 1 s)) in
    let next : 1 + a ≡ suc a = omega arith in
    let tail : rest * 256 ^ a * 256 ≡ number_of b (drop (suc a) s) * 256 ^ suc a =
    mul_assoc rest (256 ^ a) 256 ∙ ap₂ (λ (t : List ℕ) (p : ℕ). number_of b t * p) (drop-drop a 1 s ∙ ap (λ (n : ℕ). drop n s) next) (sym (pow-suc 256 a)) in
    ap (λ (n : ℕ). number_of n s) (suc-add a b) ∙ ap (λ (n : ℕ). get_or s 0 0 + n * 256) (number_split a b (drop 1 s)) ∙ omega (arith, tail)

-- the number in the front of a longer list
pub number_front : (w j : ℕ) (u : List ℕ) → w ≤ j → number_of w (take j u) ≡ number_of w u
unfolding number_of
number_front zero j u h = refl
number_front (suc w) zero u h = absurd (omega arith)
number_front (suc w) (suc j) [] h = refl
number_front (suc w) (suc j) (x ∷ u) h = ap (λ (n : ℕ). x + n * 256) (number_front w j u (omega arith))

-- ---- by `from_le_bytes` and `to_le_bytes`

sum_bytes : (k : ℕ) (s : List ℕ) → sum_through (λ i. byte_worth i (slice_index s i)) k ≡ number_of (suc k) s
unfolding number_of
sum_bytes zero s = omega arith
sum_bytes (suc k) s =
    let last : number_of 1 (drop (suc k) s) ≡ get_or s (suc k) 0 = omega (arith, get_or-drop (suc k) s 0 0, ap (λ (n : ℕ). get_or s n 0) (add-zero (suc k))) in
    ap₂ (λ (a b : ℕ). a + b * 256 ^ suc k) (sum_bytes k s) (sym last)
    ∙ sym (number_split (suc k) 1 s)
    ∙ ap (λ (n : ℕ). number_of n s) (add-one (suc k))

-- the bytes from `at` are read
pub number_read : (w at : ℕ) (s : List ℕ) {bytes : List ℕ} {r : ℕ} → 1 ≤ w → bytes ≡ take w (drop at s)
    → r ≡ sum_through (λ i. byte_worth i (slice_index bytes i)) (w - 1) → r ≡ number_of w (drop at s)
number_read w at s {bytes} l p h =
    let e : suc (w - 1) ≡ w = omega arith in
    h ∙ sum_bytes (w - 1) bytes ∙ (λ j. number_of (e j) (p j)) ∙ number_front w w (drop at s) (omega arith)

low_bytes : (i w x : ℕ) → bytes_low_first i w x ≡ bytes_of w (x / 256 ^ i)
unfolding bytes_of
low_bytes i zero x = refl
low_bytes i (suc w) x = ap₂ (λ (b : ℕ) (t : List ℕ). b ∷ t) (here i) (low_bytes (suc i) w x ∙ ap (bytes_of w) next)
  where
    here : (i : ℕ) → byte_at i x ≡ x / 256 ^ i % 256
    here zero = ap (λ (y : ℕ). y % 256) (sym (div-one x))
    here (suc i) = refl

    next : x / 256 ^ suc i ≡ x / 256 ^ i / 256
    next = ap (λ (p : ℕ). x / p) (pow-suc 256 i) ∙ sym (div-div-eq-div-mul x (256 ^ i) 256)

-- a part of as many bytes is written over
pub number_put : (w x at : ℕ) (s : List ℕ) {bytes : List ℕ} {k : ℕ} → bytes ≡ bytes_low_first 0 w x → k ≡ w → at + w ≤ length s
    → put_mid at k s bytes ≡ sets s at (bytes_of w x)
number_put w x at s {bytes} {k} p e l =
    let b : bytes ≡ bytes_of w x = p ∙ low_bytes 0 w x ∙ ap (bytes_of w) (div-one x) in
    ap (put_mid at k s) b ∙ put_part at k s (bytes_of w x) (length_bytes w x ∙ sym e) (omega arith)

-- two numbers of w bytes, the low one first, are one of twice as many
pub number_halves : (w : ℕ) (s : List ℕ) (at : ℕ) {x y : ℕ} → x ≡ number_of w (drop at s) → y ≡ number_of w (drop (at + w) s) → x + y * 256 ^ w ≡ number_of (w + w) (drop at s)
number_halves w s at p q =
    ap₂ (λ (m n : ℕ). m + n * 256 ^ w) p (q ∙ ap (number_of w) (sym (drop-drop w at s))) ∙ sym (number_split w w (drop at s))

pub number_byte : (s : List ℕ) (at : ℕ) → get_or s at 0 ≡ number_of 1 (drop at s)
unfolding number_of
number_byte s at = sym (omega (arith, get_or-drop at s 0 0, ap (λ (n : ℕ). get_or s n 0) (add-zero at)))
