-- Numbers of w bytes put as numbers of v: one loop over both widths (`Writing` of `parcel`), and what one number becomes.
use mathlib.Core.Logic.{◌⊎◌, inl, inr}
use mathlib.Core.Path.{◌≡◌, refl, sym, ap, subst, ◌∙◌}
use mathlib.Core.Bool.{◌||◌}
use mathlib.Core.List.{List, [], ◌∷◌}
use Prim.Native.Nat.{ℕ, zero, suc, ◌+◌, ◌-◌, ◌*◌, ◌/◌, ◌%◌, ◌≤◌, ◌<◌}
use native.Mathlib.Omega.{arith}
use native.Mathlib.Nat.{zero-mul, suc-mul, add-mul, mul_assoc, add_comm}
use lib.Dec.{leb}
use lib.ListN.{length, get_or, set, take, drop}
use lib.Seq.{drop-drop, get_or-drop, sets}
use Rattle.std.proofs.lemmas.List.{take_rest}
use Rattle.parcel.specs.Bytes.{number_of, bytes_of, numbers_of, all_bytes_of}
use Rattle.parcel.proofs.Numbers.{number_halves, number_byte}
use Rattle.parcel.proofs.Runs.{length_numbers, Writing, writing_goes_on, writing_ends}
use Rattle.editions.specs.Converters.{is_wide}

-- the numbers of a slice from a on, as its contract has them
abbrev pub part_from : ℕ → List ℕ → List ℕ
part_from a s = take (length s - a) (drop a s)

number_at : (w k : ℕ) (s : List ℕ) (i : ℕ) → i < k → get_or (numbers_of w k s) i 0 ≡ number_of w (drop (i * w) s)
unfolding numbers_of
number_at w zero s i l = absurd (omega arith)
number_at w (suc k) s zero l = ap (λ (n : ℕ). number_of w (drop n s)) (sym (zero-mul w))
number_at w (suc k) s (suc i) l =
    number_at w k (drop w s) i (omega arith)
    ∙ ap (number_of w) (drop-drop (i * w) w s ∙ ap (λ (n : ℕ). drop n s) (add_comm w (i * w) ∙ sym (suc-mul i w)))

-- ---- the loop: i of the k numbers of w bytes in s are stored, v bytes each

abbrev pub Converting : ℕ → ℕ → List ℕ → ℕ → List ℕ → ℕ → List ℕ → ℕ → Type 0
Converting w v s k to₀ start to i = Writing v (numbers_of w k s) start to₀ to i

module _ (w v : ℕ) (s : List ℕ) (k : ℕ) {to₀ : List ℕ} {start : ℕ} {to : List ℕ} {i : ℕ} (inv : Converting w v s k to₀ start to i) where
  pub converting_goes_on : {to' : List ℕ} → i < k → to' ≡ sets to (start + i * v) (bytes_of v (number_of w (drop (i * w) s)))
      → Converting w v s k to₀ start to' (i + 1)
  converting_goes_on l q =
      writing_goes_on inv (omega (arith, length_numbers w k s))
      (q ∙ ap (λ (x : ℕ). sets to (start + i * v) (bytes_of v x)) (sym (number_at w k s i l)))

  pub converting_ends : k ≤ i → to ≡ sets to₀ start (all_bytes_of v (numbers_of w k s))
  converting_ends l = writing_ends inv (omega (arith, length_numbers w k s))

-- ---- one number

pub two_bytes : (s : List ℕ) → number_of 2 s ≡ get_or s 0 0 + get_or s 1 0 * 256
two_bytes s = sym (number_halves 1 s 0 (number_byte s 0) (number_byte s 1))

four_bytes : (s : List ℕ) → number_of 4 s ≡ number_of 2 s + number_of 2 (drop 2 s) * 65536
four_bytes s = sym (number_halves 2 s 0 refl refl)

pub number_bytes : (s : List ℕ) → number_of 4 s ≡ get_or s 0 0 + (get_or s 1 0 + (get_or s 2 0 + get_or s 3 0 * 256) * 256) * 256
number_bytes s =
    let high : number_of 2 (drop 2 s) ≡ get_or s 2 0 + get_or s 3 0 * 256 =
    two_bytes (drop 2 s) ∙ (λ j. get_or-drop 2 s 0 0 j + get_or-drop 2 s 1 0 j * 256) in
    omega (arith, four_bytes s, two_bytes s, high)

-- two bytes of a number are those of its low half
low_two : (a b m : ℕ) → bytes_of 2 (a + (b + 0 * 256) * 256) ≡ bytes_of 2 (a + (b + m * 256) * 256)
unfolding bytes_of
low_two a b m =
    let x = a + (b + 0 * 256) * 256 in
    let y = a + (b + m * 256) * 256 in
    let e₀ : x % 256 ≡ y % 256 = omega arith in
    let e₁ : x / 256 % 256 ≡ y / 256 % 256 = omega arith in
    λ j. e₀ j ∷ e₁ j ∷ []

-- the low half of a number of w bytes is put as the number is, where it has no other or two bytes are put
low_bytes : (w v : ℕ) (s : List ℕ) → (w ≡ 2) ⊎ (v ≡ 2) → 2 ≤ w → bytes_of v (number_of 2 s) ≡ bytes_of v (number_of w s)
unfolding number_of
low_bytes w v s (inl e) l = rw e
low_bytes zero v s (inr e) l = absurd (omega arith)
low_bytes (suc zero) v s (inr e) l = absurd (omega arith)
low_bytes (suc (suc w)) v s (inr e) l = rw e (low_two (get_or s 0 0) (get_or (drop 1 s) 0 0) (number_of w (drop 1 (drop 1 s))))

-- ---- a number of 16 bits is put as one of v bytes: i bytes of it are stored, and the others are zeros

pub record Zeros (v x at : ℕ) (s₀ s : List ℕ) (i : ℕ) : Type 0 where
  pub same : sets s₀ at (bytes_of v x) ≡ sets s (at + i) (bytes_of (v - i) 0)

pub zeros_start : {v x at : ℕ} {s₀ s : List ℕ} → 2 ≤ v → x < 65536 → s ≡ sets s₀ at (bytes_of 2 x) → Zeros v x at s₀ s 2
unfolding bytes_of
zeros_start {v = zero} l h e = absurd (omega arith)
zeros_start {v = suc zero} l h e = absurd (omega arith)
zeros_start {v = suc (suc v)} {x} {at} {s₀} {s} l h e =
    let none : x / 256 / 256 ≡ 0 = omega arith in
    let two : suc (suc at) ≡ at + 2 = omega arith in
    let rest : v ≡ suc (suc v) - 2 = omega arith in
    record { same = λ j. sets (sym e j) (two j) (bytes_of (rest j) (none j)) }

pub zeros_go_on : {v x at : ℕ} {s₀ s : List ℕ} {i : ℕ} → Zeros v x at s₀ s i → i < v → Zeros v x at s₀ (set s (at + i) 0) (i + 1)
unfolding bytes_of
zeros_go_on {v} {x} {at} {s₀} {s} {i} inv l =
    let e : v - i ≡ suc (v - (i + 1)) = omega arith in
    let next : suc (at + i) ≡ at + (i + 1) = omega arith in
    record {
      same =
          inv.same
          ∙ ap (λ (n : ℕ). sets s (at + i) (bytes_of n 0)) e
          ∙ ap (λ (n : ℕ). sets (set s (at + i) 0) n (bytes_of (v - (i + 1)) 0)) next;
    }

pub zeros_end : {v x at : ℕ} {s₀ s : List ℕ} {i : ℕ} → Zeros v x at s₀ s i → v ≤ i → s ≡ sets s₀ at (bytes_of v x)
unfolding bytes_of
zeros_end {v} {x} {at} {s₀} {s} {i} inv l =
    let e : v - i ≡ 0 = omega arith in
    sym (inv.same ∙ ap (λ (n : ℕ). sets s (at + i) (bytes_of n 0)) e)

-- ---- two turns are an edge, of whose numbers the low halves are stored

pub converting_edge : {w v : ℕ} (s : List ℕ) {edges : ℕ} {to₀ : List ℕ} {start : ℕ} {to to₁ to₂ : List ℕ} {k jump target : ℕ}
    → Converting w v s (edges * 2) to₀ start to (k * 2) → k < edges → (w ≡ 2) ⊎ (v ≡ 2) → 2 ≤ w
    → jump ≡ number_of 2 (part_from (k * (2 * w)) s) → target ≡ number_of 2 (part_from w (part_from (k * (2 * w)) s))
    → to₁ ≡ sets to (start + k * (2 * v)) (bytes_of v jump) → to₂ ≡ sets to₁ (start + k * (2 * v) + v) (bytes_of v target)
    → Converting w v s (edges * 2) to₀ start to₂ ((k + 1) * 2)
converting_edge {w} {v} s {edges} {to₀} {start} {to} {to₁} {to₂} {k} {jump} {target} inv l halves m p q e f =
    let twice : (n : ℕ) → k * (2 * n) ≡ k * 2 * n = λ n. sym (mul_assoc k 2 n) in
    let once : (n : ℕ) → (k * 2 + 1) * n ≡ k * 2 * n + n = λ n. add-mul (k * 2) 1 n ∙ omega arith in
    let from' : k * (2 * w) + w ≡ (k * 2 + 1) * w = omega (arith, twice w, once w) in
    let place : start + k * (2 * v) ≡ start + k * 2 * v = omega (arith, twice v) in
    let place' : start + k * (2 * v) + v ≡ start + (k * 2 + 1) * v = omega (arith, twice v, once v) in
    let bytes : (n m x : ℕ) → n ≡ m → x ≡ number_of 2 (drop n s) → bytes_of v x ≡ bytes_of v (number_of w (drop m s)) =
    λ n m' x g r. ap (bytes_of v) (r ∙ ap (λ (i : ℕ). number_of 2 (drop i s)) g) ∙ low_bytes w v (drop m' s) halves m in
    let rest = take_rest s (k * (2 * w)) in
    let jump_at : jump ≡ number_of 2 (drop (k * (2 * w)) s) = p ∙ ap (number_of 2) rest in
    let target_at : target ≡ number_of 2 (drop (k * (2 * w) + w) s) =
    q ∙ ap (number_of 2) (take_rest (part_from (k * (2 * w)) s) w ∙ ap (drop w) rest ∙ drop-drop w (k * (2 * w)) s) in
    let first : to₁ ≡ sets to (start + k * 2 * v) (bytes_of v (number_of w (drop (k * 2 * w) s))) =
    e ∙ (λ j. sets to (place j) (bytes _ _ jump (twice w) jump_at j)) in
    let second : to₂ ≡ sets to₁ (start + (k * 2 + 1) * v) (bytes_of v (number_of w (drop ((k * 2 + 1) * w) s))) =
    f ∙ (λ j. sets to₁ (place' j) (bytes _ _ target from' target_at j)) in
    let next : k * 2 + 1 + 1 ≡ (k + 1) * 2 = omega arith in
    subst (λ (i : ℕ). Converting w v s (edges * 2) to₀ start to₂ i) next
    (converting_goes_on w v s (edges * 2) (converting_goes_on w v s (edges * 2) inv (omega arith) first) (omega arith) second)

-- ---- the test of an edge

-- that of the edge k
pub edge_wide : (s : List ℕ) (edges k : ℕ) → k < edges
    → (leb 65536 (number_of 4 (part_from (k * 8) s)) || leb 65536 (number_of 4 (drop 4 (part_from (k * 8) s)))) ≡ is_wide (numbers_of 4 (edges * 2) s) k
edge_wide s edges k l =
    let p : 2 * k * 4 ≡ k * 8 = omega arith in
    let q : (2 * k + 1) * 4 ≡ k * 8 + 4 = omega arith in
    let jump : number_of 4 (drop (k * 8) s) ≡ get_or (numbers_of 4 (edges * 2) s) (2 * k) 0 =
    sym (number_at 4 (edges * 2) s (2 * k) (omega arith) ∙ ap (λ (n : ℕ). number_of 4 (drop n s)) p) in
    let target : number_of 4 (drop 4 (drop (k * 8) s)) ≡ get_or (numbers_of 4 (edges * 2) s) (2 * k + 1) 0 =
    ap (number_of 4) (drop-drop 4 (k * 8) s)
    ∙ sym (number_at 4 (edges * 2) s (2 * k + 1) (omega arith) ∙ ap (λ (n : ℕ). number_of 4 (drop n s)) q) in
    ap (λ (x : List ℕ). leb 65536 (number_of 4 x) || leb 65536 (number_of 4 (drop 4 x))) (take_rest s (k * 8))
    ∙ (λ j. leb 65536 (jump j) || leb 65536 (target j))
