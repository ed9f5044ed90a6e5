-- The totals say something: three programs added to fresh totals. `proofs/Examples.antt` has the proof.
use Rattle.std.specs.Prelude.{◌≡◌, List, [], ◌∷◌, Some}
use Rattle.isa.specs.declared.Technique.{Technique}
use Rattle.isa.specs.PostProgram.{post_code, post_edges}
use Rattle.report.specs.Figures.{freedom}
use Rattle.totals.specs.Totals.{totals, fresh_totals, largest_at}
use Rattle.totals.specs.Theorems.{Handed, program, add_all}

-- the post program, accepted plain: 1 of 9; with memory guards it is refused
abbrev pub post : Handed
post = program Technique.Plain post_code 9 post_edges

abbrev pub three_posts : List Handed
three_posts = program Technique.MemoryGuards post_code 9 post_edges ∷ post ∷ post ∷ []

-- the refused one keeps its place, and the earlier of the two equal ones is the largest
abbrev pub TotalsShown : Type 0
TotalsShown = add_all fresh_totals three_posts ≡ totals 3 2 18 (Some (largest_at 1 (freedom 1 9)))
