-- A law of products: fractions compared by cross products.
use Prim.Native.Nat.{ℕ, ◌*◌, ◌≤◌, ◌<◌}
use native.Mathlib.Nat.{mul_right_comm, mul-le-mul_right, mul-lt-mul_of_pos_right, lt_of_mul-lt-mul_right}
use native.Mathlib.Omega.{arith}

-- e of p is at most a of b, which is less than c of d: both sides times b
pub still_less : (e p a b c d : ℕ) → 1 ≤ p → e * b ≤ a * p → a * d < c * b → e * d < c * p
still_less e p a b c d some low high =
    let l : e * b * d ≤ a * p * d = mul-le-mul_right d low in
    let h : a * d * p < c * b * p = mul-lt-mul_of_pos_right high some in
    lt_of_mul-lt-mul_right b (omega (arith, mul_right_comm e d b, mul_right_comm a p d, mul_right_comm c p b))
