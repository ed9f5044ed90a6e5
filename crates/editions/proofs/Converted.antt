-- The bytes of two editions with the same content differ in the edge numbers only: what stands before and after them is copied.
use mathlib.Core.Path.{◌≡◌, refl, sym, ap, ap₂, ◌∙◌}
use mathlib.Core.Bool.{false}
use mathlib.Core.List.{List, ◌++◌, append_assoc}
use Prim.Native.Nat.{ℕ, ◌+◌, ◌*◌, ◌/◌, ◌≤◌, ◌<◌}
use native.Mathlib.Omega.{arith}
use native.Mathlib.Nat.{mul_assoc}
use lib.ListN.{length, take, drop, length-append}
use lib.Seq.{sets, take_at, drop_at, drop-drop}
use lib.Dec.{ltb}
use borrow.Author.Tests.{lt-ltb, le-ltb}
use Rattle.answers.specs.declared.Refusal.{Refusal}
use Rattle.answers.specs.declared.Place.{Place}
use Rattle.answers.specs.Faults.{fault}
use Rattle.std.specs.Prelude.{Some, None, Ok, Err}
use Rattle.std.proofs.lemmas.List.{take_rest}
use Rattle.lists.specs.Places.{put_over}
use Rattle.lists.specs.Search.{lowest, first}
use Rattle.lists.proofs.Search.{lowest_none}
use Rattle.lists.proofs.First.{first_clean, first_found}
use Rattle.graph.specs.Claim.{edge_count}
use Rattle.parcel.specs.Bytes.{bytes_of, numbers_of, all_bytes_of}
use Rattle.parcel.specs.Parcel.{Written, counts, Content, read_of, counts_of, section_of, parcel_of}
use Rattle.parcel.specs.Theorems.{AllBelow}
use Rattle.lists.proofs.Places.{over_front, sets_append}
use Rattle.parcel.proofs.Numbers.{length_bytes}
use Rattle.parcel.proofs.Runs.{length_numbers, length_all_bytes}
use Rattle.parcel.proofs.Sections.{length_section}
use Rattle.parcel.proofs.ReaderAnswers.{Whole, whole}
use Rattle.parcel.proofs.RoundTrips.{parcel_written}
use Rattle.editions.specs.Converters.{bytes_for, is_wide, first_wide, NarrowedSo}
use Rattle.editions.specs.Inside.{ConvertedSo}
use Rattle.editions.proofs.Converting.{part_from}

module _ (code edges words : List ℕ) where
  -- up to the edge numbers
  abbrev before : List ℕ
  before = section_of 8 1 code ++ bytes_of 4 (length edges / 2)

  parts : (v : ℕ) → parcel_of v code edges words ≡ before ++ (all_bytes_of v edges ++ section_of 8 1 words)
  unfolding parcel_of section_of
  parts v =
      let a = section_of 8 1 code in
      let n = bytes_of 4 (length edges / 2) in
      ap (λ (x : List ℕ). a ++ x) (append_assoc n (all_bytes_of v edges) (section_of 8 1 words))
      ∙ sym (append_assoc a n (all_bytes_of v edges ++ section_of 8 1 words))

  length_before : length before ≡ 8 + length code * 8
  length_before = simp (length-append, length_section, length_bytes) (omega arith)

module _ (w v : ℕ) (s p : List ℕ) {n e d : ℕ} (below : AllBelow 256 s) (t : Whole w s n e d) where
  abbrev code : List ℕ
  code = numbers_of 8 n (drop 4 s)

  abbrev edges : List ℕ
  edges = numbers_of w (e * 2) (drop (8 + n * 8) s)

  abbrev words : List ℕ
  words = numbers_of 8 d (drop (12 + n * 8 + e * (2 * w)) s)

  front_long : length (before code edges words) ≡ 8 + n * 8
  front_long = length_before code edges words ∙ ap (λ (k : ℕ). 8 + k * 8) (length_numbers 8 n (drop 4 s))

  middle_long : (u : ℕ) → length (all_bytes_of u edges) ≡ e * (2 * u)
  middle_long u = length_all_bytes u edges ∙ ap (λ (k : ℕ). k * u) (length_numbers w (e * 2) (drop (8 + n * 8) s)) ∙ mul_assoc e 2 u

  is_made : s ≡ before code edges words ++ (all_bytes_of w edges ++ section_of 8 1 words)
  is_made = sym (parcel_written w s below t.is) ∙ parts code edges words w

  front_is : take (8 + n * 8) s ≡ before code edges words
  front_is = ap (take (8 + n * 8)) is_made ∙ take_at (before code edges words) _ (8 + n * 8) front_long

  back_is : drop (8 + n * 8 + e * (2 * w)) s ≡ section_of 8 1 words
  back_is =
      sym (drop-drop (e * (2 * w)) (8 + n * 8) s)
      ∙ ap (drop (e * (2 * w))) (ap (drop (8 + n * 8)) is_made ∙ drop_at (before code edges words) _ (8 + n * 8) front_long)
      ∙ drop_at (all_bytes_of w edges) (section_of 8 1 words) (e * (2 * w)) (middle_long w)

  pub size_is : length (bytes_for v (read_of w s)) ≡ 8 + n * 8 + e * (2 * v) + (4 + d * 8)
  size_is =
      ap (λ (x : Content). length (bytes_for v x)) t.is
      ∙ ap length (parts code edges words v)
      ∙ length-append (before code edges words) _
      ∙ ap₂ (λ (a b : ℕ). a + b) front_long
      (length-append (all_bytes_of v edges) (section_of 8 1 words)
      ∙ ap₂ (λ (a b : ℕ). a + b) (middle_long v) (length_section 8 1 words ∙ ap (λ (k : ℕ). 4 + k * 8) (length_numbers 8 d _)))
      ∙ omega arith

  -- three pieces, each where the one before it ends, are the parcel of the other edition
  pub pieces_put : {p₁ p₂ p₃ : List ℕ} → 8 + n * 8 + e * (2 * v) + (4 + d * 8) ≤ length p
      → p₁ ≡ sets p 0 (take (8 + n * 8) s)
      → p₂ ≡ sets p₁ (8 + n * 8) (all_bytes_of v (numbers_of w (e * 2) (drop (8 + n * 8) s)))
      → p₃ ≡ sets p₂ (8 + n * 8 + e * (2 * v)) (drop (8 + n * 8 + e * (2 * w)) s)
      → p₃ ≡ put_over (bytes_for v (read_of w s)) p
  pieces_put room a b c =
      let x = before code edges words in
      let y = all_bytes_of v edges in
      let z = section_of 8 1 words in
      let z_long : length z ≡ 4 + d * 8 = length_section 8 1 words ∙ ap (λ (k : ℕ). 4 + k * 8) (length_numbers 8 d _) in
      let x_end : 8 + n * 8 ≡ 0 + length x = omega (arith, front_long) in
      let y_end : 8 + n * 8 + e * (2 * v) ≡ 0 + length x + length y = omega (arith, front_long, middle_long v) in
      let whole_long : length (x ++ (y ++ z)) ≡ 8 + n * 8 + e * (2 * v) + (4 + d * 8) =
      length-append x (y ++ z) ∙ ap₂ (λ (a b : ℕ). a + b) front_long (length-append y z ∙ ap₂ (λ (a b : ℕ). a + b) (middle_long v) z_long) ∙ omega arith in
      c ∙ (λ j. sets (b j) (y_end j) (back_is j)) ∙ (λ j. sets (sets (a j) (x_end j) y) (0 + length x + length y) z)
      ∙ (λ j. sets (sets (sets p 0 (front_is j)) (0 + length x) y) (0 + length x + length y) z)
      ∙ sym (sets_append x (y ++ z) p 0 ∙ sets_append y z (sets p 0 x) (0 + length x))
      ∙ over_front (x ++ (y ++ z)) p (omega (arith, whole_long))
      ∙ ap (λ (l : List ℕ). put_over l p) (sym (parts code edges words v) ∙ sym (ap (bytes_for v) t.is))

-- how long bytes are that were counted
pub counted_long : (w : ℕ) (s : List ℕ) {n e d : ℕ} → Ok (counts n e d) ≡ counts_of (read_of w s) → length s ≡ 12 + n * 8 + e * (2 * w) + d * 8
counted_long w s h = (whole w s (sym h)).long

-- ---- the answers

module _ (w v : ℕ) (s p : List ℕ) {n e d : ℕ} (h : Ok (counts n e d) ≡ counts_of (read_of w s)) (below : AllBelow 256 s) where
  abbrev size : ℕ
  size = 8 + n * 8 + e * (2 * v) + (4 + d * 8)

  pub convert_short : length p < size → ConvertedSo w v s p (Err (fault Refusal.PlaceTooShort Place.Nowhere)) p
  convert_short l =
      let t = whole w s (sym h) in
      record { answers = rw (size_is w v s p below t) (rw (lt-ltb (length p) size l)); bytes = refl }

  pub convert_done : {p₁ p₂ p₃ : List ℕ} → size ≤ length p
      → p₁ ≡ sets p 0 (take (8 + n * 8) s)
      → p₂ ≡ sets p₁ (8 + n * 8) (all_bytes_of v (numbers_of w (e * 2) (part_from (8 + n * 8) s)))
      → p₃ ≡ sets p₂ (8 + n * 8 + e * (2 * v)) (part_from (8 + n * 8 + e * (2 * w)) s)
      → ConvertedSo w v s p (Ok size) p₃
  convert_done {p₁} {p₂} l a b c =
      let t = whole w s (sym h) in
      let b' = b ∙ ap (λ (x : List ℕ). sets p₁ (8 + n * 8) (all_bytes_of v (numbers_of w (e * 2) x))) (take_rest s (8 + n * 8)) in
      let c' = c ∙ ap (sets p₂ (8 + n * 8 + e * (2 * v))) (take_rest s (8 + n * 8 + e * (2 * w))) in
      record { answers = rw (size_is w v s p below t) (rw (le-ltb (length p) size l)); bytes = pieces_put w v s p below t l a b' c' }

module _ (s p : List ℕ) {n e d : ℕ} (h : Ok (counts n e d) ≡ counts_of (read_of 4 s)) where
  -- the first edge with an address above 65,535, as the code finds it
  abbrev found : List ℕ
  found = numbers_of 4 (e * 2) (drop (8 + n * 8) s)

  many : edge_count found ≡ e
  many = let long = length_numbers 4 (e * 2) (drop (8 + n * 8) s) in omega arith

  found_from : numbers_of 4 (e * 2) (part_from (8 + n * 8) s) ≡ found
  found_from = ap (numbers_of 4 (e * 2)) (take_rest s (8 + n * 8))

  pub too_wide : {edge : ℕ} → Some edge ≡ first (is_wide (numbers_of 4 (e * 2) (part_from (8 + n * 8) s))) e
      → NarrowedSo s p (Err (fault Refusal.EdgeTooWide (Place.Edge edge))) p
  too_wide {edge} f =
      let t = whole 4 s (sym h) in
      let q = first_found (is_wide found) e edge (f ∙ ap (λ (x : List ℕ). first (is_wide x) e) found_from) in
      let at : edge ≡ first_wide found = q.1 ∙ ap (lowest (is_wide found)) (sym many) in
      record { answers = rw t.is (rw (← at, many, lt-ltb edge e q.0)); bytes = refl }

  all_narrow : None ≡ first (is_wide found) e → ltb (first_wide found) (edge_count found) ≡ false
  all_narrow none =
      let none_wide = lowest_none (is_wide found) e e refl (first_clean (is_wide found) e none) in
      rw many (rw (← none_wide) (le-ltb e e (omega arith)))

  pub narrowed : {answer : Written} {p' : List ℕ} → None ≡ first (is_wide (numbers_of 4 (e * 2) (part_from (8 + n * 8) s))) e
      → ConvertedSo 4 2 s p answer p' → NarrowedSo s p answer p'
  narrowed none so =
      let t = whole 4 s (sym h) in
      record { answers = so.answers ∙ rw t.is (rw (all_narrow (none ∙ ap (λ (x : List ℕ). first (is_wide x) e) found_from))); bytes = so.bytes }
