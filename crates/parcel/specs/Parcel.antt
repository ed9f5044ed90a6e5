-- What a parcel holds, and what reading and writing it answer (document 01, "Parcel", and numbers 1 to 6; document 02, K3 and K6).
-- An edge number has w bytes, which the edition tells.
use Rattle.std.specs.Prelude.{ℕ, ◌+◌, ◌*◌, ◌-◌, ◌/◌, ◌≡◌, Bool, cond, ◌||◌, List, [], ◌∷◌, ◌++◌, length, take, drop, ltb, Result, Ok, Err}
use Rattle.answers.specs.declared.Refusal.{Refusal}
use Rattle.answers.specs.declared.Place.{Place}
use Rattle.answers.specs.declared.Fault.{Fault}
use Rattle.answers.specs.Faults.{fault}
use Rattle.answers.specs.Shape.{call_shaped}
use Rattle.parcel.specs.Bytes.{number_of, bytes_of, numbers_of, all_bytes_of}
use Rattle.lists.specs.Places.{shorter, put_over}
use Rattle.graph.specs.Claim.{edge_count}
use Rattle.rising.specs.Rising.{first_not_rising}
use Rattle.parcel.specs.declared.Edition.{Edition}
use Rattle.parcel.specs.declared.reader.Counts.{Counts}

-- how many code words, edges and data words
abbrev pub counts : ℕ → ℕ → ℕ → Counts
counts code edges words = record { code = code; edges = edges; «data» = words }

-- what reading answers: the counts, or the reason to refuse the bytes; what writing answers: how many bytes, or the reason to refuse
abbrev pub Read : Type 0
Read = Result Counts Fault

abbrev pub Written : Type 0
Written = Result ℕ Fault

-- Document 01: "16 bits each"; K6: "A second parcel edition has edge addresses of 32 bits, everything else alike"
abbrev pub width_of : Edition → ℕ
width_of Edition.First = 2
width_of Edition.Second = 4

-- "1. Fewer than four bytes are left for a count. 2. The count breaks the section's limits. 3. The bytes for the section's items are not all there."
-- s is what is left of the parcel; an item has size bytes, and there are low to 2,048 of them.
unfoldable pub count_of : ℕ → ℕ → List ℕ → Result ℕ Refusal
count_of size low s =
    cond (ltb (length s) 4) (Err Refusal.CountMissing)
    (cond (ltb (number_of 4 s) low || ltb 2048 (number_of 4 s)) (Err Refusal.CountLimit)
    (cond (ltb (length s - 4) (number_of 4 s * size)) (Err Refusal.ItemsMissing)
    (Ok (number_of 4 s))))

-- what bytes hold: code words, edge numbers and data words, or the reason to refuse them
pub data Content : Type 0 where
  holds : (code edges words : List ℕ) → Content
  refused : Refusal → Content

-- the rest of the reading, after a count
abbrev pub after_count : Result ℕ Refusal → (ℕ → Content) → Content
after_count (Ok k) rest = rest k
after_count (Err why) rest = refused why

-- a section: low to 2,048 items, each of them p numbers of w bytes, after their count of 32 bits. Its numbers, and the bytes after it, go on to the rest of the reading.
unfoldable pub section_from : ℕ → ℕ → ℕ → List ℕ → (List ℕ → List ℕ → Content) → Content
section_from w p low s rest =
    after_count (count_of (p * w) low s) (λ k. rest (numbers_of w (k * p) (drop 4 s)) (drop (4 + k * (p * w)) s))

-- "4. Bytes follow the third section."
unfoldable pub at_end : List ℕ → Content → Content
at_end [] content = content
at_end (byte ∷ s) content = refused Refusal.TrailingBytes

-- "Three sections in fixed sequence": code, 1 to 2,048 words; 0 to 2,048 edges of two numbers each; data, 0 to 2,048 words
unfoldable pub read_of : ℕ → List ℕ → Content
read_of w s =
    section_from 8 1 1 s (λ code s₁.
    section_from w 2 0 s₁ (λ edges s₂.
    section_from 8 1 0 s₂ (λ words s₃. at_end s₃ (holds code edges words))))

-- the counts that the bytes hold, before any place is looked at
abbrev pub counts_of : Content → Read
counts_of (holds code edges words) = Ok (counts (length code) (length edges / 2) (length words))
counts_of (refused why) = Err (fault why Place.Nowhere)

-- "5. A place lent to reader or writer is too short": m words and g edge numbers are lent
abbrev pub room_for : ℕ → ℕ → Content → Read
room_for m g (holds code edges words) =
    cond (ltb m (length code + length words) || ltb g (length edges)) (Err (fault Refusal.PlaceTooShort Place.Nowhere)) (counts_of (holds code edges words))
room_for m g (refused why) = counts_of (refused why)

-- "The reader puts code, and data directly after it, into one lent memory, and edge numbers into a second place."
abbrev pub memory_in : Content → List ℕ
memory_in (holds code edges words) = code ++ words
memory_in (refused why) = []

abbrev pub edges_in : Content → List ℕ
edges_in (holds code edges words) = edges
edges_in (refused why) = []

-- a refusal leaves a place as it was, and nothing is touched past what is put there
abbrev pub after_read : Read → List ℕ → List ℕ → List ℕ
after_read (Ok found) new old = put_over new old
after_read (Err f) new old = old

-- what reading the bytes s into the memory m and the edges g comes to
pub record ReadSo (w : ℕ) (s m g : List ℕ) (answer : Read) (m' g' : List ℕ) : Type 0 where
  pub answers : answer ≡ room_for (length m) (length g) (read_of w s)
  pub memory : m' ≡ after_read answer (memory_in (read_of w s)) m
  pub edges : g' ≡ after_read answer (edges_in (read_of w s)) g

-- the bytes of a section of items of p numbers, w bytes each: their count, then the numbers
unfoldable pub section_of : ℕ → ℕ → List ℕ → List ℕ
section_of w p xs = bytes_of 4 (length xs / p) ++ all_bytes_of w xs

-- the bytes of a parcel
unfoldable pub parcel_of : ℕ → List ℕ → List ℕ → List ℕ → List ℕ
parcel_of w code edges words = section_of 8 1 code ++ (section_of w 2 edges ++ section_of 8 1 words)

-- "(the writer tests 6 first)"; K3: 18, "with the place of the first edge that doesn't rise", "after 6 and before 5, on the numbers
-- alone"; then 5, where a place that is lent is too short for these bytes
abbrev pub written_of : Bool → List ℕ → Bool → List ℕ → Written
written_of shaped edges short bytes =
    cond shaped
    (cond (ltb (first_not_rising edges) (edge_count edges)) (Err (fault Refusal.EdgeNotRising (Place.Edge (first_not_rising edges))))
    (cond short (Err (fault Refusal.PlaceTooShort Place.Nowhere))
    (Ok (length bytes))))
    (Err (fault Refusal.Shape Place.Nowhere))

-- "The writer touches only the parcel's own bytes."
abbrev pub after_write : Written → List ℕ → List ℕ → List ℕ
after_write (Ok k) new old = put_over new old
after_write (Err f) new old = old

-- what writing the memory m, its first n words code, and the edges g over the bytes s comes to
pub record WrittenSo (w : ℕ) (m : List ℕ) (n : ℕ) (g s : List ℕ) (answer : Written) (s' : List ℕ) : Type 0 where
  pub answers :
      answer
      ≡ written_of (call_shaped (length m) n (length g)) g (shorter s (length (parcel_of w (take n m) g (drop n m))))
      (parcel_of w (take n m) g (drop n m))
  pub bytes : s' ≡ after_write answer (parcel_of w (take n m) g (drop n m)) s
