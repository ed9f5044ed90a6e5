-- Searches over the numbers below a bound: the first place that a test holds at, whether there is one, and how many.
use Rattle.std.specs.Prelude.{ℕ, zero, suc, ◌+◌, Bool, true, false, cond, ◌||◌, ltb, Option, find}
use Rattle.std.specs.List.{range_with_len}

-- the lowest number below n that passes the test, or n where none does
unfoldable pub lowest : (ℕ → Bool) → ℕ → ℕ
lowest test zero = zero
lowest test (suc n) = cond (ltb (lowest test n) n) (lowest test n) (cond (test n) n (suc n))

-- the first of the numbers below n that passes the test, if one does
unfoldable pub first : (ℕ → Bool) → ℕ → Option ℕ
first test n = find test (range_with_len 0 n)

-- some number below n passes the test
unfoldable pub any : (ℕ → Bool) → ℕ → Bool
any test zero = false
any test (suc n) = test n || any test n

-- a flag: 1 where the test holds
abbrev pub bit : Bool → ℕ
bit true = 1
bit false = 0

-- how many numbers below n pass the test
unfoldable pub count : (ℕ → Bool) → ℕ → ℕ
count test zero = 0
count test (suc n) = bit (test n) + count test n
