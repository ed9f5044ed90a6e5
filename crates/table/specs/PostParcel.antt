-- The parcel of the post program (document 01, "The post program and its table"), byte for byte.
use Rattle.std.specs.Prelude.{ℕ, List, [], ◌∷◌}

abbrev pub post_bytes : List ℕ
post_bytes =
    9 ∷ 0 ∷ 0 ∷ 0 ∷  -- nine words of code
    7 ∷ 0 ∷ 0 ∷ 0 ∷ 0 ∷ 0 ∷ 5 ∷ 3 ∷  -- movi r5, 7
    0 ∷ 0 ∷ 0 ∷ 0 ∷ 0 ∷ 5 ∷ 0 ∷ 2 ∷  -- addi r0, r5, 0
    0 ∷ 0 ∷ 0 ∷ 0 ∷ 0 ∷ 0 ∷ 1 ∷ 7 ∷  -- ld r1, r0(0)
    7 ∷ 0 ∷ 0 ∷ 0 ∷ 0 ∷ 0 ∷ 2 ∷ 3 ∷  -- movi r2, 7
    8 ∷ 0 ∷ 0 ∷ 0 ∷ 0 ∷ 2 ∷ 1 ∷ 4 ∷  -- bgt r1, r2, 8
    8 ∷ 0 ∷ 0 ∷ 0 ∷ 0 ∷ 1 ∷ 2 ∷ 4 ∷  -- bgt r2, r1, 8
    0 ∷ 0 ∷ 0 ∷ 0 ∷ 0 ∷ 0 ∷ 0 ∷ 6 ∷  -- jmp r0
    7 ∷ 0 ∷ 0 ∷ 0 ∷ 0 ∷ 0 ∷ 0 ∷ 0 ∷  -- label 7
    255 ∷ 255 ∷ 255 ∷ 255 ∷ 255 ∷ 255 ∷ 255 ∷ 255 ∷  -- illegal
    1 ∷ 0 ∷ 0 ∷ 0 ∷  -- one edge
    6 ∷ 0 ∷ 7 ∷ 0 ∷  -- (6, 7)
    0 ∷ 0 ∷ 0 ∷ 0 ∷  -- no data
    []
