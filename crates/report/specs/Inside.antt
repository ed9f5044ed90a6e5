-- What the private passes of this crate leave in their arrays and rely on. Nothing that is promised outside cites these.
use Rattle.std.specs.Prelude.{ℕ, min, ◌+◌, ◌-◌, ◌%◌, ◌^◌, ◌<◌, ◌≤◌, ◌≡◌, true, not, cond, List, length, get_or, set, eqb, ltb, Option, None, Some}
use Rattle.lists.specs.Search.{count}
use Rattle.isa.specs.declared.Kind.{Kind}
use Rattle.isa.specs.Words.{opcode_of}
use Rattle.isa.specs.Instructions.{instr_at, is_jump, label_number}
use Rattle.graph.specs.Claim.{is_edge, has_edge, id_of}
use Rattle.graph.specs.Passes.{Sized, Within}
use Rattle.rising.specs.Rising.{Rising}
use Rattle.report.specs.declared.Figures.{Figures}
use Rattle.report.specs.Figures.{words_of_kind, kinds_of, highest, freedom_by}

-- a kind's place in `table_kinds`: its opcode, illegal words last
abbrev pub row_of : Kind → ℕ
row_of kind = min (opcode_of kind) 11

-- the number, or n where there is none
abbrev pub number_or : ℕ → Option ℕ → ℕ
number_or n None = n
number_or n (Some w) = w

-- the number of the label at a
abbrev pub label_at : List ℕ → ℕ → ℕ → ℕ
label_at memory n a = number_or n (label_number (instr_at memory a))

-- the ID that the guard of the jump at j holds, if a jump is there
abbrev pub set_number : List ℕ → ℕ → Option ℕ
set_number memory j = cond (is_jump (instr_at memory j)) (Some (get_or memory (j - 3) 0 % 2 ^ 32)) None

abbrev pub set_at : List ℕ → ℕ → ℕ → ℕ
set_at memory n j = number_or n (set_number memory j)

-- how many of the first a numbers of f are s
unfoldable pub times_in : (ℕ → ℕ) → ℕ → ℕ → ℕ
times_in f a s = count (λ i. eqb (f i) s) a

-- the labels with the number s, and the jumps whose set has the ID s
abbrev pub labels_of : List ℕ → ℕ → ℕ → ℕ
labels_of memory n = times_in (label_at memory n) n

abbrev pub jumps_of : List ℕ → ℕ → ℕ → ℕ
jumps_of memory n = times_in (set_at memory n) n

-- the figures as the passes read them off the words, with so many edges listed
abbrev pub figures_read : List ℕ → ℕ → ℕ → Figures
figures_read memory n listed =
    record {
      kinds = kinds_of memory n;
      sets = count (λ s. not (eqb (jumps_of memory n s) 0)) n;
      largest = highest (labels_of memory n) n;
      freedom = freedom_by (words_of_kind memory n Kind.Jmp) n listed;
    }

-- what they need: a jump stands after its guard
pub record Readable (memory : List ℕ) (n : ℕ) : Type 0 where
  pub sized : Sized memory n
  pub guarded : (j : ℕ) → j < n → is_jump (instr_at memory j) ≡ true → 3 ≤ j

-- what the checker's acceptance says of them: edges rise, jumps are the addresses with an edge, each guard holds its jump's ID, the
-- targets of a jump are the labels with its ID, and each label has the ID of some jump
pub record Held (memory : List ℕ) (n : ℕ) (edges : List ℕ) : Type 0 where
  pub sized : Sized memory n
  pub within : Within edges n
  pub rises : Rising edges
  pub jumps : (j : ℕ) → j < n → is_jump (instr_at memory j) ≡ has_edge edges j
  pub guarded : (j : ℕ) → j < n → is_jump (instr_at memory j) ≡ true → 3 ≤ j
  pub ids : (j : ℕ) → j < n → is_jump (instr_at memory j) ≡ true → get_or memory (j - 3) 0 % 2 ^ 32 ≡ id_of edges n j
  pub labels : (j t : ℕ) → has_edge edges j ≡ true → t < n → is_edge edges j t ≡ eqb (label_at memory n t) (id_of edges n j)
  pub used : (t : ℕ) → t < n → label_at memory n t < n → (j : ℕ) × (is_edge edges j t ≡ true)

-- counts by number: how many there are of each number below n
pub record Tally (xs : List ℕ) (n : ℕ) (value : ℕ → ℕ) : Type 0 where
  pub size : length xs ≡ n
  pub each : (j : ℕ) → j < n → get_or xs j 0 ≡ value j

-- one more of s, where s is one of the numbers that are counted
abbrev pub one_more : List ℕ → ℕ → List ℕ
one_more xs s = cond (ltb s (length xs)) (set xs s (get_or xs s 0 + 1)) xs

-- the first a words counted: by kind, the labels by number, the jumps by ID
pub record Counted (memory : List ℕ) (n a : ℕ) (kinds labels jumps : List ℕ) : Type 0 where
  pub kinds_counted : kinds ≡ kinds_of memory a
  pub labels_counted : Tally labels n (times_in (label_at memory n) a)
  pub jumps_counted : Tally jumps n (times_in (set_at memory n) a)
