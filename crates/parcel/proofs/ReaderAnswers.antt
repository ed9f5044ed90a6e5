-- The reader's answers, case by case: what the counts say of the bytes, and what follows for each answer.
use mathlib.Core.Path.{◌≡◌, refl, sym, ap, ap₂, ◌∙◌}
use mathlib.Core.Bool.{Bool, true, false, cond, ◌||◌}
use mathlib.Core.List.{List, [], ◌++◌, append_assoc, append-nil}
use Prim.Native.Nat.{ℕ, ◌+◌, ◌-◌, ◌*◌, ◌/◌, ◌≤◌}
use native.Mathlib.Omega.{arith}
use native.Mathlib.Nat.{mul-le-mul_right}
use lib.ListN.{length, take, drop, length-append, length-drop, drop_of_length-le}
use lib.Seq.{drop-drop, take_at, drop_at, take_all}
use lib.Dec.{ltb}
use borrow.Author.Tests.{le-ltb, ltb-false}
use borrow.Rule.Slice.PartMut.{put_mid, post_of}
use Rattle.lists.proofs.Bools.{clash}
use Rattle.answers.specs.declared.Refusal.{Refusal}
use Rattle.answers.specs.declared.Place.{Place}
use Rattle.answers.specs.Faults.{fault}
use Rattle.std.specs.Prelude.{Ok, Err}
use Rattle.parcel.specs.declared.reader.Counts.{Counts}
use Rattle.parcel.specs.Bytes.{numbers_of}
use Rattle.lists.specs.Places.{put_over}
use Rattle.parcel.specs.Parcel.{Read, counts, Content, holds, refused, read_of, counts_of, room_for, memory_in, edges_in, ReadSo}
use Rattle.parcel.proofs.Runs.{length_numbers}
use Rattle.parcel.proofs.Contents.{Sectioned, sectioned, counted, all_read, neither}

-- what n code words, e edges and d data words say of the bytes they were counted in
pub record Whole (w : ℕ) (s : List ℕ) (n e d : ℕ) : Type 0 where
  pub is : read_of w s ≡ holds (numbers_of 8 n (drop 4 s)) (numbers_of w (e * 2) (drop (8 + n * 8) s)) (numbers_of 8 d (drop (12 + n * 8 + e * (2 * w)) s))
  pub long : length s ≡ 12 + n * 8 + e * (2 * w) + d * 8
  pub some_code : 1 ≤ n
  pub code_limit : n ≤ 2048
  pub edge_limit : e ≤ 2048
  pub data_limit : d ≤ 2048

whole_from : (w : ℕ) (s : List ℕ) (t : Sectioned w s) → Whole w s t.n t.e t.d
whole_from w s t =
    let x = counted 8 1 s t.code_count in
    let y = counted (2 * w) 0 _ t.edge_count in
    let z = counted 8 0 _ t.data_count in
    let p : 4 + t.n * 8 + 4 ≡ 8 + t.n * 8 = omega arith in
    let q : 4 + t.n * 8 + (4 + t.e * (2 * w)) + 4 ≡ 12 + t.n * 8 + t.e * (2 * w) = omega arith in
    record {
      is = all_read w s t.code_count t.edge_count t.data_count t.end ∙ simp (p, q);
      long = omega (arith, x.room, simp length-drop at y.room, simp length-drop at z.room, t.end);
      some_code = x.from;
      code_limit = x.upto;
      edge_limit = y.upto;
      data_limit = z.upto;
    }

whole_told : (w : ℕ) (s : List ℕ) (t : Sectioned w s) {n e d : ℕ} → counts_of (read_of w s) ≡ Ok (counts n e d) → Whole w s n e d
whole_told w s t {n} {e} {d} h =
    let all = whole_from w s t in
    let half : t.e * 2 / 2 ≡ t.e = omega arith in
    let q : Ok (counts t.n t.e t.d) ≡ Ok (counts n e d) = simp (length_numbers, half) at (ap counts_of (sym all.is) ∙ h) in
    let r : counts t.n t.e t.d ≡ counts n e d = cc in
    let q₁ : t.n ≡ n = ap (λ (x : Counts). x.code) r in
    let q₂ : t.e ≡ e = ap (λ (x : Counts). x.edges) r in
    let q₃ : t.d ≡ d = ap (λ (x : Counts). x.data) r in
    rw (← q₁, ← q₂, ← q₃) all

held : (w : ℕ) (s : List ℕ) (x : Content) {n e d : ℕ} → read_of w s ≡ x → counts_of x ≡ Ok (counts n e d) → Sectioned w s
held w s (holds code edges words) p h = sectioned w s p
held w s (refused why) p h = clash (cc)

pub whole : (w : ℕ) (s : List ℕ) {n e d : ℕ} → counts_of (read_of w s) ≡ Ok (counts n e d) → Whole w s n e d
whole w s h = whole_told w s (held w s (read_of w s) refl h) h

-- ---- the room that is lent: what is answered

module _ {w : ℕ} {s : List ℕ} {n e d : ℕ} (h : Whole w s n e d) (m g : ℕ) where
  pub none_short : n + d ≤ m → e * 2 ≤ g → Ok (counts n e d) ≡ room_for m g (read_of w s)
  none_short k l =
      let half : e * 2 / 2 ≡ e = omega arith in
      simp (h.is, length_numbers, half, le-ltb m (n + d) k, le-ltb g (e * 2) l)

-- counts were answered: they are the parcel's, and there is room for all of it
room_made : (short : Bool) (r : Read) {n e d : ℕ} → Ok (counts n e d) ≡ cond short (Err (fault Refusal.PlaceTooShort Place.Nowhere)) r
    → (short ≡ false) × (r ≡ Ok (counts n e d))
room_made true r h = clash (cc)
room_made false r h = (refl, sym h)

pub counts_read : (x : Content) (m g : ℕ) {n e d : ℕ} → Ok (counts n e d) ≡ room_for m g x → counts_of x ≡ Ok (counts n e d)
counts_read (holds code edges words) m g h =
    (room_made (ltb m (length code + length words) || ltb g (length edges)) (counts_of (holds code edges words)) h).1
counts_read (refused why) m g h = sym h

-- where a number of an edge has at most 8 bytes, those of all edges are few
pub record Fitting (w : ℕ) (s : List ℕ) (m g n e d : ℕ) : Type 0 where
  pub all : Whole w s n e d
  pub few : e * (2 * w) ≤ 32768
  pub words : n + d ≤ m
  pub numbers : e * 2 ≤ g

-- the code reads the width v, of which w is the meaning
pub fitting : {v w : ℕ} (s : List ℕ) (m g : ℕ) {n e d : ℕ} → v ≡ w → w ≤ 8 → Ok (counts n e d) ≡ room_for m g (read_of w s) → Fitting v s m g n e d
fitting {v} {w} s m g {n} {e} {d} same small h =
    let t = whole w s (counts_read (read_of w s) m g h) in
    let short = (room_made (ltb m (n + d) || ltb g (e * 2)) (Ok (counts n (e * 2 / 2) d)) (simp (t.is, length_numbers) at h)).0 in
    let f = neither (ltb m (n + d)) (ltb g (e * 2)) short in
    let few = mul-le-mul_right (2 * w) t.edge_limit in
    rw same record { all = t; few = omega (arith, few, small); words = ltb-false m (n + d) f.0; numbers = ltb-false g (e * 2) f.1 }

-- ---- what is put

-- code at the front of a memory, and data in the part after it
pub put_after : (code words m : List ℕ) {m₁ part : List ℕ} (n : ℕ) → length code ≡ n → n ≤ length m → m₁ ≡ put_over code m → part ≡ put_over words (take (length m₁ - n) (drop n m₁))
    → put_mid n (length m₁ - n) m₁ part ≡ put_over (code ++ words) m
put_after code words m {m₁} {part} n e h q r =
    let k = length (put_over code m) - length code in
    let h' : length code ≤ length m = omega arith in
    let back : take k (drop (length code) (put_over code m)) ≡ drop (length code) m =
    ap (take k) (drop_at code (drop (length code) m) (length code) refl) ∙ take_all k (drop (length code) m) (simp (length-append, length-drop) (omega arith)) in
    let gone : post_of (length code) k (put_over code m) ≡ [] = drop_of_length-le (drop (length code) (put_over code m)) {i = k} (simp length-drop (omega arith)) in
    let part_is : part ≡ put_over words (drop (length code) m) = r ∙ (λ j. put_over words (take (length (q j) - sym e j) (drop (sym e j) (q j)))) ∙ ap (put_over words) back in
    (λ j. put_mid (sym e j) (length (q j) - sym e j) (q j) (part_is j))
    ∙ ap₂ (λ (a b : List ℕ). a ++ (put_over words (drop (length code) m) ++ b)) (take_at code (drop (length code) m) (length code) refl) gone
    ∙ ap (λ (a : List ℕ). code ++ a) (append-nil (put_over words (drop (length code) m)))
    ∙ sym (append_assoc code words (drop (length words) (drop (length code) m)))
    ∙ ap (λ (a : List ℕ). (code ++ words) ++ a) (drop-drop (length words) (length code) m ∙ ap (λ (j : ℕ). drop j m) (sym (length-append code words)))

pub read_put : {v w : ℕ} {s m g m' g' : List ℕ} {k n e d : ℕ} → k ≡ length g → v ≡ w → Ok (counts n e d) ≡ room_for (length m) k (read_of w s)
    → m' ≡ put_over (numbers_of 8 n (drop 4 s) ++ numbers_of 8 d (drop (12 + n * 8 + e * (2 * v)) s)) m → g' ≡ put_over (numbers_of w (e * 2) (drop (8 + n * 8) s)) g
    → ReadSo w s m g (Ok (counts n e d)) m' g'
read_put {v} {w} {s} {m} {g} {k = k} {n} {e} {d} long same h a b =
    let h' : Ok (counts n e d) ≡ room_for (length m) (length g) (read_of w s) = h ∙ ap (λ (i : ℕ). room_for (length m) i (read_of w s)) long in
    let t : Whole w s n e d = whole w s (counts_read (read_of w s) (length m) (length g) h') in
    record {
      answers = h';
      memory = (a ∙ ap (λ (u : ℕ). put_over (numbers_of 8 n (drop 4 s) ++ numbers_of 8 d (drop (12 + n * 8 + e * (2 * u)) s)) m) same)
          ∙ ap (λ (x : Content). put_over (memory_in x) m) (sym t.is);
      edges = b ∙ ap (λ (x : Content). put_over (edges_in x) g) (sym t.is);
    }
