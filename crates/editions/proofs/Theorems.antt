-- The converters over each other, by the round trips of `parcel` at both widths; and the verdicts on what they convert and what they turn away.
use mathlib.Core.Path.{◌≡◌, refl, sym, ap, ap₂, subst, ◌∙◌}
use mathlib.Core.Logic.{inl, inr, ⊎_elim}
use mathlib.Core.Bool.{Bool, true, false, cond}
use mathlib.Core.List.{List, ◌++◌}
use Prim.Native.Nat.{ℕ, zero, suc, ◌+◌, ◌*◌, ◌/◌, ◌%◌, ◌^◌, ◌≤◌, ◌<◌}
use native.Mathlib.Omega.{arith}
use native.Mathlib.Decide.{dec_lt}
use native.Mathlib.Nat.{pow-suc}
use lib.Dec.{ltb, leb}
use lib.ListN.{length, get_or, take, drop, length-append, get_or-eq_default}
use lib.Seq.{take_at}
use borrow.Author.Tests.{le-ltb, lt-leb, leb-true, leb-false, ltb-true, ltb-false}
use Rattle.lists.specs.Places.{shorter, put_over}
use Rattle.lists.proofs.Bools.{clash, either, or_left, or_right}
use Rattle.lists.proofs.Search.{lowest_is, lowest_none, clean_of}
use Rattle.answers.specs.Shape.{call_shaped}
use Rattle.answers.specs.declared.Refusal.{Refusal}
use Rattle.answers.specs.declared.Place.{Place}
use Rattle.answers.specs.declared.Fault.{Fault}
use Rattle.answers.specs.Faults.{fault}
use Rattle.std.specs.Prelude.{Ok, Err}
use Rattle.isa.specs.declared.Technique.{Technique}
use Rattle.checker.specs.Verdicts.{verdict_of}
use Rattle.graph.specs.Claim.{edge_count, jump_of, target_of}
use Rattle.graph.specs.Passes.{Within}
use Rattle.parcel.specs.Bytes.{number_of, numbers_of}
use Rattle.parcel.specs.Parcel.{Written, Content, holds, refused, read_of, counts_of, parcel_of}
use Rattle.parcel.specs.Theorems.{AllBelow, WrittenBack}
use Rattle.parcel.proofs.Runs.{length_numbers}
use Rattle.parcel.proofs.ReaderAnswers.{Whole, whole}
use Rattle.parcel.proofs.RoundTrips.{below_drop, parcel_read, parcel_written}
use Rattle.parcel.proofs.Calls.{takes}
use Rattle.editions.specs.Converters.{bytes_for, is_wide, first_wide, widened_of, narrowed_of, WidenedSo, NarrowedSo}
use Rattle.editions.specs.Theorems.{Widened, Narrowed, parcel_verdict, OutsideCode, TwoEditions}
use Rattle.editions.proofs.Outside.{seven, eight, by_seven, by_eight, in_code}

-- ---- what bytes hold

-- a number of w bytes is below 256 ^ w
number_below : (w : ℕ) (s : List ℕ) → AllBelow 256 s → number_of w s < 256 ^ w
unfolding number_of
number_below zero s h = omega arith
number_below (suc w) s h =
    let low = h 0 in
    let high = number_below w (drop 1 s) (below_drop 1 s h) in
    rw pow-suc (omega arith)

numbers_below : (w k : ℕ) (s : List ℕ) → AllBelow 256 s → AllBelow (256 ^ w) (numbers_of w k s)
unfolding numbers_of
numbers_below w zero s h i = let p = number_below w s h in omega arith
numbers_below w (suc k) s h zero = number_below w s h
numbers_below w (suc k) s h (suc i) = numbers_below w k (drop w s) (below_drop w s h) i

-- code, edges and data of a parcel, whose edge numbers have w bytes
record Held (w : ℕ) (code edges words : List ℕ) : Type 0 where
  pub pairs : ℕ
  pub some_code : 1 ≤ length code
  pub code_limit : length code ≤ 2048
  pub even : length edges ≡ pairs * 2
  pub edge_limit : pairs ≤ 2048
  pub data_limit : length words ≤ 2048
  pub code_below : AllBelow (256 ^ 8) code
  pub edges_below : AllBelow (256 ^ w) edges
  pub words_below : AllBelow (256 ^ 8) words

module _ (w : ℕ) (s : List ℕ) (below : AllBelow 256 s) {code edges words : List ℕ} (h : read_of w s ≡ holds code edges words) where
  all_held : Whole w s (length code) (length edges / 2) (length words) → Held w code edges words
  all_held t =
      let same = sym h ∙ t.is in
      let code_is : numbers_of 8 (length code) (drop 4 s) ≡ code = cc in
      let edges_is : numbers_of w (length edges / 2 * 2) (drop (8 + length code * 8) s) ≡ edges = cc in
      let words_is : numbers_of 8 (length words) (drop (12 + length code * 8 + length edges / 2 * (2 * w)) s) ≡ words = cc in
      record {
        pairs = length edges / 2;
        some_code = t.some_code;
        code_limit = t.code_limit;
        even = sym (ap length edges_is) ∙ length_numbers w (length edges / 2 * 2) _;
        edge_limit = t.edge_limit;
        data_limit = t.data_limit;
        code_below = subst (AllBelow (256 ^ 8)) code_is (numbers_below 8 (length code) _ (below_drop 4 s below));
        edges_below = subst (AllBelow (256 ^ w)) edges_is (numbers_below w (length edges / 2 * 2) _ (below_drop (8 + length code * 8) s below));
        words_below = subst (AllBelow (256 ^ 8)) words_is (numbers_below 8 (length words) _ (below_drop (12 + length code * 8 + length edges / 2 * (2 * w)) s below));
      }

  held : Held w code edges words
  held = all_held (whole w s (ap counts_of h))

-- they are written in an edition whose numbers can hold the edges, and read back
reread : (w v : ℕ) {code edges words : List ℕ} → Held w code edges words → AllBelow (256 ^ v) edges
    → read_of v (parcel_of v code edges words) ≡ holds code edges words
reread w v {code} {edges} {words} f fits =
    parcel_read v f.pairs code edges words f.some_code f.code_limit f.even f.edge_limit f.data_limit f.code_below fits f.words_below

-- ---- edge numbers above 65,535

module _ (edges : List ℕ) where
  none_wide : AllBelow 65536 edges → edge_count edges ≤ first_wide edges
  none_wide h =
      let clean : (k : ℕ) → k < edge_count edges → is_wide edges k ≡ false =
      λ k l. rw (lt-leb 65536 (jump_of edges k) (h (2 * k)), lt-leb 65536 (target_of edges k) (h (2 * k + 1))) in
      let e = lowest_none (is_wide edges) (edge_count edges) (edge_count edges) refl clean in
      omega arith

  none_above : (pairs : ℕ) → length edges ≡ pairs * 2 → edge_count edges ≤ first_wide edges → AllBelow 65536 edges
  none_above pairs pairs-are none i = inside (dec_lt i (length edges))
    where
      clean : (k : ℕ) → k < edge_count edges → is_wide edges k ≡ false
      clean = clean_of (is_wide edges) (edge_count edges) (first_wide edges) refl none

      part : i < length edges → (b : ℕ) → i % 2 ≡ b → get_or edges i 0 < 65536
      part l zero e =
          let z : i ≡ 2 * (i / 2) = omega arith in
          rw z (leb-false 65536 (jump_of edges (i / 2)) (or_left (leb 65536 (jump_of edges (i / 2))) _ (clean (i / 2) (omega (arith, pairs-are)))))
      part l (suc b) e =
          let z : i ≡ 2 * (i / 2) + 1 = omega arith in
          rw z (leb-false 65536 (target_of edges (i / 2)) (or_right (leb 65536 (jump_of edges (i / 2))) _ (clean (i / 2) (omega (arith, pairs-are)))))

      inside : Dec (i < length edges) → get_or edges i 0 < 65536
      inside (yes l) = part l (i % 2) refl
      inside (no l) = omega (arith, get_or-eq_default edges 0 {n = i} (omega arith))

-- ---- bytes were put: what they hold, and which they are

record Put (x : Content) (v k : ℕ) (p p' : List ℕ) : Type 0 where
  pub code : List ℕ
  pub edges : List ℕ
  pub words : List ℕ
  pub content : x ≡ holds code edges words
  pub narrow : v ≡ 2 → edge_count edges ≤ first_wide edges
  pub bytes : take k p' ≡ parcel_of v code edges words

made : (short : Bool) (k size : ℕ) → Ok k ≡ cond short (Err (fault Refusal.PlaceTooShort Place.Nowhere)) (Ok size) → k ≡ size
made true k size h = clash (cc)
made false k size h = cc

front : (k : ℕ) (xs p : List ℕ) {p' : List ℕ} → k ≡ length xs → p' ≡ put_over xs p → take k p' ≡ xs
front k xs p e q = ap (take k) q ∙ take_at xs (drop (length xs) p) k (sym e)

widened_put : (s : List ℕ) (k : ℕ) (p p' : List ℕ) → WidenedSo s p (Ok k) p' → Put (read_of 2 s) 4 k p p'
widened_put s k p p' so = go (read_of 2 s) so.answers so.bytes
  where
    go : (x : Content) → Ok k ≡ widened_of (shorter p (length (bytes_for 4 x))) x → p' ≡ put_over (bytes_for 4 x) p → Put x 4 k p p'
    go (holds code edges words) a b =
        let e = made (shorter p (length (parcel_of 4 code edges words))) k (length (parcel_of 4 code edges words)) a in
        record { code = code; edges = edges; words = words; content = refl; narrow = λ z. absurd (omega arith); bytes = front k (parcel_of 4 code edges words) p e b }
    go (refused why) a b = clash (cc)

none_found : (found : Bool) (at : Place) (w : Written) {k : ℕ} → Ok k ≡ cond found (Err (fault Refusal.EdgeTooWide at)) w → (found ≡ false) × (Ok k ≡ w)
none_found true at w h = clash (cc)
none_found false at w h = (refl, h)

narrowed_put : (s : List ℕ) (k : ℕ) (p p' : List ℕ) → NarrowedSo s p (Ok k) p' → Put (read_of 4 s) 2 k p p'
narrowed_put s k p p' so = go (read_of 4 s) so.answers so.bytes
  where
    go : (x : Content) → Ok k ≡ narrowed_of (shorter p (length (bytes_for 2 x))) x → p' ≡ put_over (bytes_for 2 x) p → Put x 2 k p p'
    go (holds code edges words) a b =
        let bytes = parcel_of 2 code edges words in
        let short = shorter p (length bytes) in
        let f = none_found (ltb (first_wide edges) (edge_count edges)) (Place.Edge (first_wide edges)) (cond short (Err (fault Refusal.PlaceTooShort Place.Nowhere)) (Ok (length bytes))) a in
        let e = made short k (length bytes) f.1 in
        record {
          code = code;
          edges = edges;
          words = words;
          content = refl;
          narrow = λ z. ltb-false (first_wide edges) (edge_count edges) f.0;
          bytes = front k bytes p e b;
        }
    go (refused why) a b = clash (cc)

-- ---- the theorems

-- widened bytes hold what the first bytes hold
wide_reread : (s : List ℕ) → AllBelow 256 s → {code edges words : List ℕ} → read_of 2 s ≡ holds code edges words
    → read_of 4 (parcel_of 4 code edges words) ≡ holds code edges words
wide_reread s below h = let f = held 2 s below h in reread 2 4 f (λ i. let l = f.edges_below i in omega arith)

narrow_reread : (s : List ℕ) → AllBelow 256 s → {code edges words : List ℕ} → read_of 4 s ≡ holds code edges words → edge_count edges ≤ first_wide edges
    → read_of 2 (parcel_of 2 code edges words) ≡ holds code edges words
narrow_reread s below {edges = edges} h none = let f = held 4 s below h in reread 4 2 f (none_above edges f.pairs f.even none)

module _ (s : List ℕ) (k : ℕ) (p p' : List ℕ) where
  widening : Widened s k p p' → read_of 4 (take k p') ≡ read_of 2 s
  widening w =
      let x = widened_put s k p p' w.so in
      ap (read_of 4) x.bytes ∙ wide_reread s w.are_bytes x.content ∙ sym x.content

  narrowing : Narrowed s k p p' → read_of 2 (take k p') ≡ read_of 4 s
  narrowing w =
      let x = narrowed_put s k p p' w.so in
      ap (read_of 2) x.bytes ∙ narrow_reread s w.are_bytes x.content (x.narrow refl) ∙ sym x.content

  module _ (q q' : List ℕ) (answer : Written) (room : length s ≤ length q) where
    back_narrow : Widened s k p p' → NarrowedSo (take k p') q answer q' → WrittenBack s q answer q'
    back_narrow w so =
        let x = widened_put s k p p' w.so in
        let f = held 2 s w.are_bytes x.content in
        let content : read_of 4 (take k p') ≡ holds x.code x.edges x.words = widening w ∙ x.content in
        let same : parcel_of 2 x.code x.edges x.words ≡ s = parcel_written 2 s w.are_bytes x.content in
        let fine : ltb (first_wide x.edges) (edge_count x.edges) ≡ false = le-ltb (first_wide x.edges) (edge_count x.edges) (none_wide x.edges f.edges_below) in
        let size : answer ≡ Ok (length s) =
        so.answers ∙ rw (content, fine, same, le-ltb (length q) (length s) room) in
        record { size = size; bytes = so.bytes ∙ rw (size, content, same) }

    back_wide : Narrowed s k p p' → WidenedSo (take k p') q answer q' → WrittenBack s q answer q'
    back_wide w so =
        let x = narrowed_put s k p p' w.so in
        let content : read_of 2 (take k p') ≡ holds x.code x.edges x.words = narrowing w ∙ x.content in
        let same : parcel_of 4 x.code x.edges x.words ≡ s = parcel_written 4 s w.are_bytes x.content in
        let size : answer ≡ Ok (length s) =
        so.answers ∙ rw (content, same, le-ltb (length q) (length s) room) in
        record { size = size; bytes = so.bytes ∙ rw (size, content, same) }

-- an edge with an address above 65,535 is outside code
module _ (t : Technique) (code edges words : List ℕ) (shape : call_shaped (length (code ++ words)) (length code) (length edges) ≡ true) where
  abbrev memory : List ℕ
  memory = code ++ words

  abbrev m : ℕ
  m = edge_count edges

  not_inside : Within edges (length code) → (k : ℕ) → k < m → is_wide edges k ≡ true → ⊥
  not_inside w k l e =
      let small = w.small in
      let j = w.jumps k l in
      let a = w.targets k l in
      ⊎_elim (λ p. omega (arith, leb-true 65536 (jump_of edges k) p)) (λ p. omega (arith, leb-true 65536 (target_of edges k) p)) (either (leb 65536 (jump_of edges k)) _ e)

  refused_outside : first_wide edges < m → OutsideCode (verdict_of t memory (length code) edges)
  refused_outside l = go (dec_lt (seven t memory (length code) edges shape) m) (dec_lt (eight t memory (length code) edges shape) m)
    where
      go : Dec (seven t memory (length code) edges shape < m) → Dec (eight t memory (length code) edges shape < m) → OutsideCode (verdict_of t memory (length code) edges)
      go (yes p) q = inl (_, by_seven t memory (length code) edges shape p)
      go (no p) (yes q) = inr (_, by_eight t memory (length code) edges shape (omega arith) q)
      go (no p) (no q) =
          absurd (not_inside (in_code t memory (length code) edges shape (omega arith) (omega arith)) (first_wide edges) l ((lowest_is (is_wide edges) m).found l))

-- 19 with an edge: the bytes are read, and there is such an edge
found_wide : (found short : Bool) (size k k' : ℕ)
    → Err (fault Refusal.EdgeTooWide (Place.Edge k)) ≡ cond found (Err (fault Refusal.EdgeTooWide (Place.Edge k'))) (cond short (Err (fault Refusal.PlaceTooShort Place.Nowhere)) (Ok size))
    → found ≡ true
found_wide true short size k k' h = refl
found_wide false true size k k' h =
    let same : fault Refusal.EdgeTooWide (Place.Edge k) ≡ fault Refusal.PlaceTooShort Place.Nowhere = cc in
    let why : Refusal.EdgeTooWide ≡ Refusal.PlaceTooShort = ap (λ (f : Fault). f.refusal) same in
    clash (cc)
found_wide false false size k k' h = clash (cc)

shaped_held : (s : List ℕ) {code edges words : List ℕ} → read_of 4 s ≡ holds code edges words → call_shaped (length (code ++ words)) (length code) (length edges) ≡ true
shaped_held s {code} {edges} {words} h = go (whole 4 s (ap counts_of h))
  where
    go : Whole 4 s (length code) (length edges / 2) (length words) → call_shaped (length (code ++ words)) (length code) (length edges) ≡ true
    go t =
        let edges_is : numbers_of 4 (length edges / 2 * 2) (drop (8 + length code * 8) s) ≡ edges = let same = sym h ∙ t.is in cc in
        let pairs : length edges ≡ length edges / 2 * 2 = sym (ap length edges_is) ∙ length_numbers 4 (length edges / 2 * 2) _ in
        ap₂ (λ (a b : ℕ). call_shaped a (length code) b) (length-append code words) pairs
        ∙ takes (length code) (length edges / 2) (length words) t.some_code t.code_limit t.edge_limit t.data_limit

turned_away : (t : Technique) (s p p' : List ℕ) (k : ℕ) → NarrowedSo s p (Err (fault Refusal.EdgeTooWide (Place.Edge k))) p' → OutsideCode (parcel_verdict t (read_of 4 s))
turned_away t s p p' k so = go (read_of 4 s) refl so.answers
  where
    go : (x : Content) → read_of 4 s ≡ x → Err (fault Refusal.EdgeTooWide (Place.Edge k)) ≡ narrowed_of (shorter p (length (bytes_for 2 x))) x → OutsideCode (parcel_verdict t x)
    go (holds code edges words) e a =
        refused_outside t code edges words (shaped_held s e)
        (ltb-true (first_wide edges) (edge_count edges)
        (found_wide (ltb (first_wide edges) (edge_count edges)) (shorter p (length (parcel_of 2 code edges words))) (length (parcel_of 2 code edges words)) k (first_wide edges) a))
    go (refused why) e a =
        let same : fault Refusal.EdgeTooWide (Place.Edge k) ≡ fault why Place.Nowhere = cc in
        let at : Place.Edge k ≡ Place.Nowhere = ap (λ (f : Fault). f.place) same in
        clash (cc)

pub two_editions : TwoEditions
two_editions =
    record {
      widening_loses_nothing = widening;
      narrowing_loses_nothing = narrowing;
      narrowed_back = λ s k p p' q q' answer w so room. back_narrow s k p p' q q' answer room w so;
      widened_back = λ s k p p' q q' answer w so room. back_wide s k p p' q q' answer room w so;
      same_verdict_widened = λ t s k p p' w. ap (parcel_verdict t) (widening s k p p' w);
      same_verdict_narrowed = λ t s k p p' w. ap (parcel_verdict t) (narrowing s k p p' w);
      too_wide_refused = turned_away;
    }
