-- Numbers in bytes, over the width. Document 01, "Parcel": "Low byte first."
use Rattle.std.specs.Prelude.{ℕ, zero, suc, ◌+◌, ◌*◌, ◌/◌, ◌%◌, List, [], ◌∷◌, ◌++◌, get_or, drop}

-- the number in the first w bytes of s
unfoldable pub number_of : ℕ → List ℕ → ℕ
number_of zero s = 0
number_of (suc w) s = get_or s 0 0 + number_of w (drop 1 s) * 256

-- the w bytes of the number x
unfoldable pub bytes_of : ℕ → ℕ → List ℕ
bytes_of zero x = []
bytes_of (suc w) x = x % 256 ∷ bytes_of w (x / 256)

-- the first k numbers in s, w bytes each
unfoldable pub numbers_of : ℕ → ℕ → List ℕ → List ℕ
numbers_of w zero s = []
numbers_of w (suc k) s = number_of w s ∷ numbers_of w k (drop w s)

-- the bytes of the numbers xs, w bytes each
unfoldable pub all_bytes_of : ℕ → List ℕ → List ℕ
all_bytes_of w [] = []
all_bytes_of w (x ∷ xs) = bytes_of w x ++ all_bytes_of w xs
