-- Which edges and addresses break the rules about the graph: a test for each place, true where it is faulty.
use Rattle.std.specs.Prelude.{ℕ, Bool, true, false, not, ◌&&◌, ◌||◌, List, leb, eqb, Option, None, Some}
use Rattle.std.specs.Bool.{beq}
use Rattle.lists.specs.Search.{any}
use Rattle.isa.specs.Instructions.{instr_at, is_jump, label_number}
use Rattle.graph.specs.Claim.{edge_count, jump_of, target_of, is_edge, has_edge, is_destination, id_of}

-- 7. "An edge starts where no jmp of the code is."
abbrev pub starts_at_no_jump : List ℕ → ℕ → List ℕ → ℕ → Bool
starts_at_no_jump memory n edges k = leb n (jump_of edges k) || not (is_jump (instr_at memory (jump_of edges k)))

-- 8. "An edge's target is outside code."
abbrev pub ends_outside_code : ℕ → List ℕ → ℕ → Bool
ends_outside_code n edges k = leb n (target_of edges k)

-- 9. "A jmp has no edge."
abbrev pub lacks_edge : List ℕ → List ℕ → ℕ → Bool
lacks_edge memory edges a = is_jump (instr_at memory a) && not (has_edge edges a)

-- the target sets of i and j have an address of code in common
abbrev pub sets_meet : List ℕ → ℕ → ℕ → ℕ → Bool
sets_meet edges n i j = any (λ a. is_edge edges i a && is_edge edges j a) n

-- an address of code is in one of the two and not in the other
abbrev pub sets_differ : List ℕ → ℕ → ℕ → ℕ → Bool
sets_differ edges n i j = any (λ a. not (beq (is_edge edges i a) (is_edge edges j a))) n

-- 10. "A jump's target set meets another's and differs from it."
abbrev pub overlaps : List ℕ → ℕ → ℕ → Bool
overlaps edges n j = any (λ i. sets_meet edges n j i && sets_differ edges n j i) n

abbrev pub is_label : Option ℕ → Bool
is_label None = false
is_label (Some w) = true

abbrev pub is_label_of : Option ℕ → ℕ → Bool
is_label_of None id = false
is_label_of (Some w) id = eqb w id

-- 12. "a destination holds label with its set's ID and no other address holds a label": an edge ends here whose set's ID
-- the label here is not, or a label stands here and no edge ends
abbrev pub label_wrong : List ℕ → ℕ → List ℕ → ℕ → Bool
label_wrong memory n edges a =
    any (λ k. eqb (target_of edges k) a && not (is_label_of (label_number (instr_at memory a)) (id_of edges n (jump_of edges k)))) (edge_count edges)
    || (is_label (label_number (instr_at memory a)) && not (is_destination edges a))
