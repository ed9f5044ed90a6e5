-- The figures of a program (document 02, K1): its words by their kinds, its target sets, and the freedom of its computed jumps.
use Rattle.std.specs.Prelude.{ℕ, zero, suc, max, ◌+◌, ◌*◌, Bool, not, cond, ◌&&◌, List, [], ◌∷◌, map, eqb, Option, None, Some}
use Rattle.lists.specs.Search.{any, count}
use Rattle.isa.specs.declared.Kind.{Kind}
use Rattle.isa.specs.Instructions.{instr_at, is_kind, is_jump}
use Rattle.graph.specs.Claim.{is_edge}
use Rattle.graph.specs.Rules.{sets_differ}
use Rattle.report.specs.declared.Freedom.{Freedom}
use Rattle.report.specs.declared.Figures.{Figures}

-- the sequence of document 01's table, the kinds that were added to it (document 02, K8), and then the kind of an illegal word
abbrev pub table_kinds : List Kind
table_kinds =
    Kind.Label ∷ Kind.Add ∷ Kind.Addi ∷ Kind.Movi ∷ Kind.Bgt ∷ Kind.Jd ∷ Kind.Jmp ∷ Kind.Ld ∷ Kind.St ∷ Kind.Call ∷ Kind.Ret
    ∷ Kind.Unknown ∷ []

-- "how many words of each kind, illegal included"
unfoldable pub words_of_kind : List ℕ → ℕ → Kind → ℕ
words_of_kind memory n kind = count (λ a. is_kind kind (instr_at memory a)) n

abbrev pub kinds_of : List ℕ → ℕ → List ℕ
kinds_of memory n = map (words_of_kind memory n) table_kinds

-- how many addresses of code the target set of j has
unfoldable pub set_size : List ℕ → ℕ → ℕ → ℕ
set_size edges n j = count (is_edge edges j) n

-- j is a jump whose target set no earlier jump has
abbrev pub is_new_set : List ℕ → ℕ → List ℕ → ℕ → Bool
is_new_set memory n edges j =
    is_jump (instr_at memory j) && not (any (λ i. is_jump (instr_at memory i) && not (sets_differ edges n i j)) j)

-- "the number of target sets, equal ones counted once"
unfoldable pub sets_of : List ℕ → ℕ → List ℕ → ℕ
sets_of memory n edges = count (is_new_set memory n edges) n

-- the highest of f 0 to f (n - 1), 0 where n is 0; and their sum
unfoldable pub highest : (ℕ → ℕ) → ℕ → ℕ
highest f zero = 0
highest f (suc n) = max (f n) (highest f n)

unfoldable pub total : (ℕ → ℕ) → ℕ → ℕ
total f zero = 0
total f (suc n) = f n + total f n

-- "the size of the largest" target set: "without jumps .. 0", since an address that is no jump has no edge
abbrev pub largest_of : ℕ → List ℕ → ℕ
largest_of n edges = highest (set_size edges n) n

-- "the distinct edges": those that start at 0, and at 1, and so on. Of an accepted program they are its edges as listed
-- (`EdgesAsListed` in `Theorems.antt`).
abbrev pub distinct_edges : ℕ → List ℕ → ℕ
distinct_edges n edges = total (set_size edges n) n

abbrev pub freedom : ℕ → ℕ → Freedom
freedom edges possible = record { edges = edges; possible = possible }

-- "Freedom is two whole numbers: the distinct edges, and jumps times code words; without jumps it is left out"
abbrev pub freedom_by : ℕ → ℕ → ℕ → Option Freedom
freedom_by jumps n edges = cond (eqb jumps 0) None (Some (freedom edges (jumps * n)))

abbrev pub freedom_of : List ℕ → ℕ → List ℕ → Option Freedom
freedom_of memory n edges = freedom_by (words_of_kind memory n Kind.Jmp) n (distinct_edges n edges)

-- the two numbers of a freedom, 0 where it is left out
abbrev pub numerator_of : Option Freedom → ℕ
numerator_of None = 0
numerator_of (Some f) = f.edges

abbrev pub denominator_of : Option Freedom → ℕ
denominator_of None = 0
denominator_of (Some f) = f.possible

unfoldable pub figures_of : List ℕ → ℕ → List ℕ → Figures
figures_of memory n edges =
    record {
      kinds = kinds_of memory n;
      sets = sets_of memory n edges;
      largest = largest_of n edges;
      freedom = freedom_of memory n edges;
    }
