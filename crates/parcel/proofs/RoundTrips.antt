-- Reading what was written, and writing what was read: of a number, of a run of numbers, of a section, of a parcel; over the width of an edge number.
use mathlib.Core.Path.{◌≡◌, refl, sym, ap, ap₂, ◌∙◌, subst}
use mathlib.Core.List.{List, [], ◌∷◌, ◌++◌, append_assoc, append-nil}
use Prim.Native.Nat.{ℕ, zero, suc, ◌+◌, ◌-◌, ◌*◌, ◌/◌, ◌%◌, ◌^◌, ◌≤◌, ◌<◌}
use native.Mathlib.Omega.{arith}
use native.Mathlib.Nat.{pow-suc, div-lt_iff_lt-mul, mod-add-div', zero-lt-suc, suc-mul, zero-mul, add_comm, mul-one, mul_assoc, mul-div_cancel}
use lib.ListN.{length, take, drop, length-append, length-drop, take-append-drop, drop_of_length-le}
use lib.Seq.{drop_at, take-add, get_or-drop, drop-drop, length-take-le}
use borrow.Author.Tests.{le-ltb}
use Rattle.parcel.specs.Bytes.{number_of, bytes_of, numbers_of, all_bytes_of}
use Rattle.parcel.specs.Parcel.{Content, holds, count_of, section_from, at_end, read_of, section_of, parcel_of}
use Rattle.parcel.specs.Theorems.{AllBelow, ReadWritten, WrittenRead}
use Rattle.std.specs.Prelude.{Ok}
use Rattle.parcel.proofs.Numbers.{length_bytes}
use Rattle.parcel.proofs.Runs.{length_numbers, length_all_bytes}
use Rattle.parcel.proofs.WriterAnswers.{well_shaped}
use Rattle.parcel.proofs.Contents.{counted, goes_on, sectioned, all_read}

-- ---- a number

number_of_bytes : (w x : ℕ) (t : List ℕ) → x < 256 ^ w → number_of w (bytes_of w x ++ t) ≡ x
unfolding number_of bytes_of
number_of_bytes zero x t h = omega arith
number_of_bytes (suc w) x t h =
    let h' : x / 256 < 256 ^ w = (div-lt_iff_lt-mul (zero-lt-suc 255)).1 (rw pow-suc at h) in
    ap (λ (q : ℕ). x % 256 + q * 256) (number_of_bytes w (x / 256) t h') ∙ mod-add-div' x 256

bytes_of_number : (w : ℕ) (s : List ℕ) → AllBelow 256 s → w ≤ length s → bytes_of w (number_of w s) ≡ take w s
unfolding number_of bytes_of
bytes_of_number zero s h l = refl
bytes_of_number (suc w) [] h l = absurd (omega arith)
bytes_of_number (suc w) (b ∷ s) h l =
    let n = number_of w s in
    let low : (b + n * 256) % 256 ≡ b = omega (arith, h 0) in
    let high : (b + n * 256) / 256 ≡ n = omega (arith, h 0) in
    (λ j. low j ∷ bytes_of w (high j)) ∙ ap (λ (t : List ℕ). b ∷ t) (bytes_of_number w s (λ i. h (suc i)) (omega arith))

-- ---- a run of numbers

numbers_of_bytes : (w : ℕ) (xs t : List ℕ) → AllBelow (256 ^ w) xs → numbers_of w (length xs) (all_bytes_of w xs ++ t) ≡ xs
unfolding numbers_of all_bytes_of
numbers_of_bytes w [] t h = refl
numbers_of_bytes w (x ∷ xs) t h =
    let after = all_bytes_of w xs ++ t in
    ap (numbers_of w (suc (length xs))) (append_assoc (bytes_of w x) (all_bytes_of w xs) t)
    ∙ (λ j. number_of_bytes w x after (h 0) j ∷ numbers_of w (length xs) (drop_at (bytes_of w x) after w (length_bytes w x) j))
    ∙ ap (λ (l : List ℕ). x ∷ l) (numbers_of_bytes w xs t (λ i. h (suc i)))

pub below_drop : {b : ℕ} (n : ℕ) (s : List ℕ) → AllBelow b s → AllBelow b (drop n s)
below_drop {b} n s h i = subst (λ (x : ℕ). x < b) (sym (get_or-drop n s i 0)) (h (n + i))

pub bytes_of_numbers : (w k : ℕ) (s : List ℕ) → AllBelow 256 s → k * w ≤ length s → all_bytes_of w (numbers_of w k s) ≡ take (k * w) s
unfolding numbers_of all_bytes_of
bytes_of_numbers w zero s h l = ap (λ (n : ℕ). take n s) (sym (zero-mul w))
bytes_of_numbers w (suc k) s h l =
    let l' : k * w + w ≤ length s = rw suc-mul at l in
    ap₂ (λ (a b : List ℕ). a ++ b) (bytes_of_number w s h (omega arith)) (bytes_of_numbers w k (drop w s) (below_drop w s h) (simp length-drop (omega arith)))
    ∙ sym (take-add w (k * w) s) ∙ ap (λ (n : ℕ). take n s) (add_comm w (k * w) ∙ sym (suc-mul k w))

-- ---- a section

count_of_bytes : (size low k : ℕ) (t : List ℕ) → low ≤ k → k ≤ 2048 → k * size ≤ length t → count_of size low (bytes_of 4 k ++ t) ≡ Ok k
unfolding count_of
count_of_bytes size low k t a b d =
    let e : number_of 4 (bytes_of 4 k ++ t) ≡ k = number_of_bytes 4 k t (omega arith) in
    let f : length (bytes_of 4 k ++ t) ≡ 4 + length t = length-append (bytes_of 4 k) t ∙ ap (λ (n : ℕ). n + length t) (length_bytes 4 k) in
    let g : 4 + length t - 4 ≡ length t = omega arith in
    simp (e, f, g, le-ltb (4 + length t) 4 (omega arith), le-ltb k low a, le-ltb 2048 k b, le-ltb (length t) (k * size) d)

-- k items of p numbers each, written and then read: the numbers, and what follows them, go on
section_read : (w p low k : ℕ) (xs t : List ℕ) (rest : List ℕ → List ℕ → Content) → length xs ≡ k * p → length xs / p ≡ k → low ≤ k → k ≤ 2048 → AllBelow (256 ^ w) xs
    → section_from w p low (section_of w p xs ++ t) rest ≡ rest xs t
unfolding section_of
section_read w p low k xs t rest e f a b below =
    let size : length (all_bytes_of w xs) ≡ k * (p * w) = length_all_bytes w xs ∙ ap (λ (n : ℕ). n * w) e ∙ mul_assoc k p w in
    let after = all_bytes_of w xs ++ t in
    let s = bytes_of 4 k ++ after in
    let s_is : (bytes_of 4 (length xs / p) ++ all_bytes_of w xs) ++ t ≡ s =
    append_assoc (bytes_of 4 (length xs / p)) (all_bytes_of w xs) t ∙ ap (λ (n : ℕ). bytes_of 4 n ++ after) f in
    let four : drop 4 s ≡ after = drop_at (bytes_of 4 k) after 4 (length_bytes 4 k) in
    ap (λ (l : List ℕ). section_from w p low l rest) s_is
    ∙ goes_on w p low s rest (count_of_bytes (p * w) low k after a b (omega (arith, length-append (all_bytes_of w xs) t)))
    ∙ ap₂ rest (ap₂ (numbers_of w) (sym e) four ∙ numbers_of_bytes w xs t below)
    (sym (drop-drop (k * (p * w)) 4 s) ∙ ap (drop (k * (p * w))) four ∙ drop_at (all_bytes_of w xs) t (k * (p * w)) size)

-- read and then written: the same bytes
section_written : (w p low : ℕ) (s : List ℕ) {k : ℕ} → 0 < p → count_of (p * w) low s ≡ Ok k → AllBelow 256 s
    → section_of w p (numbers_of w (k * p) (drop 4 s)) ++ drop (4 + k * (p * w)) s ≡ s
unfolding section_of
section_written w p low s {k} pos h below =
    let c = counted (p * w) low s h in
    let room = c.room in
    let xs = numbers_of w (k * p) (drop 4 s) in
    let count : length xs / p ≡ number_of 4 s = ap (λ (n : ℕ). n / p) (length_numbers w (k * p) (drop 4 s)) ∙ mul-div_cancel k pos ∙ c.is in
    let front : bytes_of 4 (length xs / p) ≡ take 4 s = ap (bytes_of 4) count ∙ bytes_of_number 4 s below (omega arith) in
    let size = mul_assoc k p w in
    let back : all_bytes_of w xs ≡ take (k * (p * w)) (drop 4 s) =
    bytes_of_numbers w (k * p) (drop 4 s) (below_drop 4 s below) (simp length-drop (omega arith)) ∙ ap (λ (n : ℕ). take n (drop 4 s)) size in
    (λ j. (front j ++ back j) ++ drop (4 + k * (p * w)) s)
    ∙ ap (λ (l : List ℕ). l ++ drop (4 + k * (p * w)) s) (sym (take-add 4 (k * (p * w)) s)) ∙ take-append-drop (4 + k * (p * w)) s

-- ---- a parcel

pub parcel_read : (w e : ℕ) (code edges words : List ℕ) → 1 ≤ length code → length code ≤ 2048 → length edges ≡ e * 2 → e ≤ 2048 → length words ≤ 2048
    → AllBelow (256 ^ 8) code → AllBelow (256 ^ w) edges → AllBelow (256 ^ 8) words → read_of w (parcel_of w code edges words) ≡ holds code edges words
unfolding read_of parcel_of at_end
parcel_read w e code edges words some many pairs few data-few code_below edges_below words_below =
    let one : (xs : List ℕ) → length xs ≡ length xs * 1 = λ xs. sym (mul-one (length xs)) in
    section_read 8 1 1 (length code) code _ _ (one code) (omega arith) some many code_below
    ∙ section_read w 2 0 e edges _ _ pairs (omega (arith, pairs)) (omega arith) few edges_below
    ∙ ap (λ (s : List ℕ). section_from 8 1 0 s (λ words s₃. at_end s₃ (holds code edges words))) (sym (append-nil (section_of 8 1 words)))
    ∙ section_read 8 1 0 (length words) words [] _ (one words) (omega arith) (omega arith) data-few words_below

pub parcel_written : (w : ℕ) (s : List ℕ) {code edges words : List ℕ} → AllBelow 256 s → read_of w s ≡ holds code edges words → parcel_of w code edges words ≡ s
unfolding parcel_of
parcel_written w s {code} {edges} {words} below h =
    let t = sectioned w s h in
    let edges_at = 4 + t.n * 8 in
    let data_at = edges_at + (4 + t.e * (2 * w)) in
    let same = sym h ∙ all_read w s t.code_count t.edge_count t.data_count t.end in
    let code_is : code ≡ numbers_of 8 t.n (drop 4 s) = cc in
    let edges_is : edges ≡ numbers_of w (t.e * 2) (drop (edges_at + 4) s) = cc in
    let words_is : words ≡ numbers_of 8 t.d (drop (data_at + 4) s) = cc in
    let nothing : drop (data_at + (4 + t.d * 8)) s ≡ [] = drop_of_length-le s t.end in
    let third : section_of 8 1 words ≡ drop data_at s =
    sym (append-nil (section_of 8 1 words))
    ∙ (λ j. section_of 8 1 (words_is j) ++ sym nothing j)
    ∙ simp (mul-one, drop-drop) at (section_written 8 1 0 (drop data_at s) (zero-lt-suc 0) t.data_count (below_drop data_at s below)) in
    let second : section_of w 2 edges ++ drop data_at s ≡ drop edges_at s =
    ap (λ (l : List ℕ). section_of w 2 l ++ drop data_at s) edges_is
    ∙ simp drop-drop at (section_written w 2 0 (drop edges_at s) (zero-lt-suc 1) t.edge_count (below_drop edges_at s below)) in
    ap (λ (l : List ℕ). section_of 8 1 code ++ (section_of w 2 edges ++ l)) third
    ∙ ap (λ (l : List ℕ). section_of 8 1 code ++ l) second
    ∙ ap (λ (l : List ℕ). section_of 8 1 l ++ drop edges_at s) code_is
    ∙ simp mul-one at (section_written 8 1 1 s (zero-lt-suc 0) t.code_count below)

below_take : {b : ℕ} (n : ℕ) (s : List ℕ) → 0 < b → AllBelow b s → AllBelow b (take n s)
below_take {b} zero s pos h i = pos
below_take {b} (suc n) [] pos h i = pos
below_take {b} (suc n) (x ∷ s) pos h zero = h 0
below_take {b} (suc n) (x ∷ s) pos h (suc i) = below_take n s pos (λ j. h (suc j)) i

pub read_written : ReadWritten
read_written w m n g h =
    let t = well_shaped (length m) n (length g) h.shape in
    let long = length-take-le n m t.within in
    let rest = length-drop n m in
    let pairs : length g ≡ length g / 2 * 2 = omega (arith, t.even) in
    parcel_read w (length g / 2) (take n m) g (drop n m) (omega arith) (omega arith) pairs (omega arith) (omega arith)
    (below_take n m (zero-lt-suc 18446744073709551615) h.words) h.numbers (below_drop n m h.words)

pub written_read : WrittenRead
written_read w s code edges words below h = parcel_written w s below h
