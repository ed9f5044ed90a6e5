-- Number 6, turned round: what a call on memory and graph must be given.
use Rattle.std.specs.Prelude.{ℕ, ◌-◌, ◌%◌, Bool, ◌&&◌, leb, eqb}

-- not: "n is outside 1 to 2,048 or past the memory, D (the memory's length less n) is above 2,048"
abbrev pub memory_shaped : ℕ → ℕ → Bool
memory_shaped len n = leb 1 n && (leb n 2048 && (leb n len && leb (len - n) 2048))

-- not: "the edge numbers are odd in count or above 4,096"
abbrev pub edges_shaped : ℕ → Bool
edges_shaped count = eqb (count % 2) 0 && leb count 4096

-- a memory of len words, n of them code, and so many edge numbers
abbrev pub call_shaped : ℕ → ℕ → ℕ → Bool
call_shaped len n count = memory_shaped len n && edges_shaped count
