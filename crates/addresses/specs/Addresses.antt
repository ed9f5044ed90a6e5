-- The address of a load or a store (document 02, K5).
use Rattle.std.specs.Prelude.{ℕ, ◌+◌, ◌^◌, cond, ltb, Option, Some, None}

-- "For ld and st the sum is exact": the figures' words have no top
abbrev pub address_of : ℕ → ℕ → ℕ
address_of base w = base + w

-- the answer of `address`: the address, or, for "one of two to the 64 or more", that there is none
abbrev pub access_at : ℕ → Option ℕ
access_at a = cond (ltb a (2 ^ 64)) (Some a) None
