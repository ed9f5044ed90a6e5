-- The reader and the writer give back each other: of what bytes hold, and of the two calls, whatever else is in the places lent to them.
-- The writer writes where the edges rise (document 02, K3), and so the calls give back each other there. An edge number has w bytes: 2 in
-- the first edition, 4 in the second (K6), and each theorem is over any w.
use Rattle.std.specs.Prelude.{ℕ, ◌+◌, ◌*◌, ◌-◌, ◌/◌, ◌^◌, ◌≤◌, ◌<◌, ◌≡◌, true, List, length, get_or, take, drop, Ok, Err}
use Rattle.answers.specs.Shape.{call_shaped}
use Rattle.lists.specs.Places.{put_over}
use Rattle.answers.specs.declared.Refusal.{Refusal}
use Rattle.answers.specs.declared.Place.{Place}
use Rattle.rising.specs.Rising.{Rising, FirstNotRising}
use Rattle.answers.specs.Faults.{fault}
use Rattle.parcel.specs.Parcel.{Read, Written, counts, holds, read_of, edges_in, parcel_of, ReadSo, WrittenSo}

-- every number of xs is below b, as the bytes, edge numbers and words in a lent place are
abbrev pub AllBelow : ℕ → List ℕ → Type 0
AllBelow b xs = (i : ℕ) → get_or xs i 0 < b

-- a memory and a graph that every call takes (number 6)
pub record WellFormed (w : ℕ) (m : List ℕ) (n : ℕ) (g : List ℕ) : Type 0 where
  pub shape : call_shaped (length m) n (length g) ≡ true
  pub words : AllBelow (2 ^ 64) m
  pub numbers : AllBelow (256 ^ w) g

-- reading what was written gives the same code, edges and data
abbrev pub ReadWritten : Type 0
ReadWritten =
    (w : ℕ) (m : List ℕ) (n : ℕ) (g : List ℕ) → WellFormed w m n g
    → read_of w (parcel_of w (take n m) g (drop n m)) ≡ holds (take n m) g (drop n m)

-- writing what was read gives the same bytes
abbrev pub WrittenRead : Type 0
WrittenRead =
    (w : ℕ) (s code edges words : List ℕ) → AllBelow 256 s → read_of w s ≡ holds code edges words → parcel_of w code edges words ≡ s

-- the same of the calls. Bytes s written over p, in a place that is long enough
pub record WrittenBack (s p : List ℕ) (answer : Written) (p' : List ℕ) : Type 0 where
  pub size : answer ≡ Ok (length s)
  pub bytes : p' ≡ put_over s p

-- edges g that are not written over p: 18, with the first edge that doesn't rise, and nothing is changed
pub record NotWritten (g p : List ℕ) (answer : Written) (p' : List ℕ) : Type 0 where
  pub edge : ℕ
  pub first : FirstNotRising g edge
  pub refused : answer ≡ Err (fault Refusal.EdgeNotRising (Place.Edge edge))
  pub unchanged : p' ≡ p

-- a memory and a graph that every call takes are written exactly where the edges rise, whatever the words; elsewhere it is 18
pub record WrittenWhereRising (w : ℕ) : Type 0 where
  pub rising : (m : List ℕ) (n : ℕ) (g p p' : List ℕ) (answer : Written) → WrittenSo w m n g p answer p'
      → call_shaped (length m) n (length g) ≡ true → length (parcel_of w (take n m) g (drop n m)) ≤ length p → Rising g
      → WrittenBack (parcel_of w (take n m) g (drop n m)) p answer p'
  pub only : (m : List ℕ) (n : ℕ) (g p p' : List ℕ) (k : ℕ) → WrittenSo w m n g p (Ok k) p' → Rising g
  pub otherwise : (m : List ℕ) (n : ℕ) (g p p' : List ℕ) (answer : Written) → WrittenSo w m n g p answer p'
      → call_shaped (length m) n (length g) ≡ true → (Rising g → ⊥) → NotWritten g p answer p'

-- What the writer left, read into places that are long enough: the counts, and the same memory and edges
pub record ReadBack (m : List ℕ) (n : ℕ) (g m₀ g₀ : List ℕ) (answer : Read) (m₁ g₁ : List ℕ) : Type 0 where
  pub counts : answer ≡ Ok (counts n (length g / 2) (length m - n))
  pub memory : m₁ ≡ put_over m m₀
  pub edges : g₁ ≡ put_over g g₀

abbrev pub ReadAfterWrite : Type 0
ReadAfterWrite =
    (w : ℕ) (m : List ℕ) (n : ℕ) (g s s' : List ℕ) (k : ℕ) → WrittenSo w m n g s (Ok k) s' → AllBelow (2 ^ 64) m
    → AllBelow (256 ^ w) g → (m₀ g₀ m₁ g₁ : List ℕ) (answer : Read) → ReadSo w (take k s') m₀ g₀ answer m₁ g₁ → length m ≤ length m₀
    → length g ≤ length g₀
    → ReadBack m n g m₀ g₀ answer m₁ g₁

-- what the reader put, of the bytes s, handed to the writer: the places lent to the reader as they were and as it left them, and the
-- counts that it answered, by which the writer gets their fronts
pub record ReadThenWritten (w : ℕ) (s p : List ℕ) (answer : Written) (p' : List ℕ) : Type 0 where
  pub memory : List ℕ
  pub numbers : List ℕ
  pub memory_read : List ℕ
  pub numbers_read : List ℕ
  pub n : ℕ
  pub e : ℕ
  pub d : ℕ
  pub are_bytes : AllBelow 256 s
  pub read : ReadSo w s memory numbers (Ok (counts n e d)) memory_read numbers_read
  pub written : WrittenSo w (take (n + d) memory_read) n (take (e * 2) numbers_read) p answer p'

-- it gives back the same bytes exactly where the edges of the bytes rise, and is 18 where they don't
pub record WriteAfterRead (w : ℕ) : Type 0 where
  pub rising : (s p p' : List ℕ) (answer : Written) → ReadThenWritten w s p answer p' → length s ≤ length p → Rising (edges_in (read_of w s))
      → WrittenBack s p answer p'
  pub only : (s p p' : List ℕ) (answer : Written) → ReadThenWritten w s p answer p' → WrittenBack s p answer p'
      → Rising (edges_in (read_of w s))
  pub otherwise : (s p p' : List ℕ) (answer : Written) → ReadThenWritten w s p answer p' → (Rising (edges_in (read_of w s)) → ⊥)
      → NotWritten (edges_in (read_of w s)) p answer p'

-- no parcel of the first edition is longer than 40,972 bytes, so a longer input is read as its first 40,973 bytes are, or any more of them
abbrev pub FrontSuffices : Type 0
FrontSuffices = (s : List ℕ) (k : ℕ) → 40973 ≤ k → k ≤ length s → read_of 2 (take k s) ≡ read_of 2 s
