-- The two calls, one after the other: their contracts say what each leaves, and `RoundTrips` the rest.
use mathlib.Core.Path.{◌≡◌, refl, sym, ap, ap₂, ◌∙◌, subst}
use mathlib.Core.Bool.{Bool, true, false, cond}
use mathlib.Core.List.{List, ◌++◌}
use Prim.Native.Nat.{ℕ, ◌+◌, ◌-◌, ◌*◌, ◌/◌, ◌%◌, ◌≤◌}
use native.Mathlib.Omega.{arith}
use lib.Dec.{ltb}
use lib.ListN.{length, take, drop, length-append, length-drop, take-append-drop}
use lib.Seq.{take_at, drop_at, length-take-le}
use borrow.Author.Tests.{ltb-true, ltb-false, le-ltb, le-leb}
use Rattle.lists.proofs.Bools.{clash}
use Rattle.answers.specs.Shape.{call_shaped}
use Rattle.answers.specs.declared.Refusal.{Refusal}
use Rattle.answers.specs.declared.Place.{Place}
use Rattle.answers.specs.Faults.{fault}
use Rattle.std.specs.Prelude.{Ok, Err}
use Rattle.parcel.specs.Bytes.{numbers_of}
use Rattle.lists.specs.Places.{shorter, put_over}
use Rattle.graph.specs.Claim.{edge_count}
use Rattle.rising.specs.Rising.{first_not_rising, Rising}
use Rattle.rising.proofs.Rising.{first_found, none_rising, rising_none}
use Rattle.parcel.specs.Parcel.{Written, counts, Content, holds, read_of, memory_in, edges_in, after_write, parcel_of, WrittenSo}
use Rattle.parcel.specs.Theorems.{WrittenBack, NotWritten, WrittenWhereRising, ReadAfterWrite, ReadThenWritten, WriteAfterRead}
use Rattle.parcel.proofs.Runs.{length_numbers}
use Rattle.parcel.proofs.ReaderAnswers.{whole, counts_read}
use Rattle.parcel.proofs.WriterAnswers.{well_shaped, bytes_planned}
use Rattle.parcel.proofs.RoundTrips.{read_written, written_read}

-- bytes were written: numbers 6, 18 and 5 let the call through, and they are as many as was answered
bytes_written : (shaped falls short : Bool) (k size : ℕ) (at : Place)
    → Ok k ≡ cond shaped (cond falls (Err (fault Refusal.EdgeNotRising at)) (cond short (Err (fault Refusal.PlaceTooShort Place.Nowhere)) (Ok size))) (Err (fault Refusal.Shape Place.Nowhere))
    → (shaped ≡ true) × (falls ≡ false) × (k ≡ size)
bytes_written true falls short k size at h = let p = bytes_planned falls short k size at h in (refl, p.0, p.2)
bytes_written false falls short k size at h = clash (cc)

-- ---- what is written, and where

module _ (w : ℕ) (m : List ℕ) (n : ℕ) (g p p' : List ℕ) where
  abbrev parcel_bytes : List ℕ
  parcel_bytes = parcel_of w (take n m) g (drop n m)

  passed : (k : ℕ) → WrittenSo w m n g p (Ok k) p'
      → (call_shaped (length m) n (length g) ≡ true) × (ltb (first_not_rising g) (edge_count g) ≡ false) × (k ≡ length parcel_bytes)
  passed k so =
      bytes_written (call_shaped (length m) n (length g)) (ltb (first_not_rising g) (edge_count g)) (shorter p (length parcel_bytes)) k
      (length parcel_bytes) (Place.Edge (first_not_rising g)) so.answers

  only_rising : (k : ℕ) → WrittenSo w m n g p (Ok k) p' → Rising g
  only_rising k so = none_rising g (ltb-false (first_not_rising g) (edge_count g) (passed k so).1)

  module _ (answer : Written) (so : WrittenSo w m n g p answer p') (shape : call_shaped (length m) n (length g) ≡ true) where
    rising_written : length parcel_bytes ≤ length p → Rising g → WrittenBack parcel_bytes p answer p'
    rising_written room r =
        let rise = le-ltb (first_not_rising g) (edge_count g) (omega (arith, rising_none g r)) in
        let size : answer ≡ Ok (length parcel_bytes) =
        so.answers ∙ simp (shape, rise, le-ltb (length p) (length parcel_bytes) room) in
        record { size = size; bytes = so.bytes ∙ ap (λ (a : Written). after_write a parcel_bytes p) size }

    falls_refused : (Rising g → ⊥) → NotWritten g p answer p'
    falls_refused falls = go (ltb (first_not_rising g) (edge_count g)) refl
      where
        go : (b : Bool) → ltb (first_not_rising g) (edge_count g) ≡ b → NotWritten g p answer p'
        go true e =
            let refused : answer ≡ Err (fault Refusal.EdgeNotRising (Place.Edge (first_not_rising g))) = so.answers ∙ rw (shape, e) in
            record {
              edge = first_not_rising g;
              first = first_found g (ltb-true (first_not_rising g) (edge_count g) e);
              refused = refused;
              unchanged = so.bytes ∙ ap (λ (a : Written). after_write a parcel_bytes p) refused;
            }
        go false e = absurd (falls (none_rising g (ltb-false (first_not_rising g) (edge_count g) e)))

pub written_where_rising : (w : ℕ) → WrittenWhereRising w
written_where_rising w =
    record {
      rising = λ m n g p p' answer so shape. rising_written w m n g p p' answer so shape;
      only = only_rising w;
      otherwise = λ m n g p p' answer so shape. falls_refused w m n g p p' answer so shape;
    }

-- ---- written, and then read

pub read_after_write : ReadAfterWrite
read_after_write w m n g s s' k so m-below g-below m₀ g₀ m₁ g₁ answer r m-room g_room =
    let bytes = parcel_of w (take n m) g (drop n m) in
    let a = passed w m n g s s' k so in
    let f = well_shaped (length m) n (length g) a.0 in
    let parcel : take k s' ≡ bytes = ap (take k) so.bytes ∙ take_at bytes (drop (length bytes) s) k (sym a.2) in
    let holds_it : read_of w (take k s') ≡ holds (take n m) g (drop n m) =
    ap (read_of w) parcel ∙ read_written w m n g (record { shape = a.0; words = m-below; numbers = g-below }) in
    let n_long : length (take n m) ≡ n = length-take-le n m f.within in
    let enough : n + (length m - n) ≤ length m₀ = omega arith in
    let counts : answer ≡ Ok (counts n (length g / 2) (length m - n)) =
    r.answers ∙ simp (holds_it, n_long, length-drop, le-ltb (length m₀) (n + (length m - n)) enough, le-ltb (length g₀) (length g) g_room) in
    record {
      counts = counts;
      memory = simp (counts, holds_it, take-append-drop) at r.memory;
      edges = simp (counts, holds_it) at r.edges;
    }

-- a memory and edges of the sizes that a parcel has are what every call takes
pub takes : (n e d : ℕ) → 1 ≤ n → n ≤ 2048 → e ≤ 2048 → d ≤ 2048 → call_shaped (n + d) n (e * 2) ≡ true
takes n e d a b c f =
    let d_is : n + d - n ≡ d = omega arith in
    let even : e * 2 % 2 ≡ 0 = omega arith in
    simp (d_is, even, le-leb 1 n a, le-leb n 2048 b, le-leb n (n + d) (omega arith), le-leb d 2048 f, le-leb (e * 2) 4096 (omega arith))

-- ---- read, and then written

-- what the writer is then given: the code, edges and data of the bytes, which it can only write as those bytes
record Handed (w : ℕ) (s p : List ℕ) (answer : Written) (p' : List ℕ) : Type 0 where
  pub memory : List ℕ
  pub n : ℕ
  pub is_written : WrittenSo w memory n (edges_in (read_of w s)) p answer p'
  pub shape : call_shaped (length memory) n (length (edges_in (read_of w s))) ≡ true
  pub same : parcel_of w (take n memory) (edges_in (read_of w s)) (drop n memory) ≡ s

handed : (w : ℕ) (s p p' : List ℕ) (answer : Written) → ReadThenWritten w s p answer p' → Handed w s p answer p'
handed w s p p' answer h =
    let n = h.n in
    let e = h.e in
    let d = h.d in
    let t = whole w s (counts_read (read_of w s) (length h.memory) (length h.numbers) h.read.answers) in
    let code = numbers_of 8 n (drop 4 s) in
    let numbers = numbers_of w (e * 2) (drop (8 + n * 8) s) in
    let words = numbers_of 8 d (drop (12 + n * 8 + e * (2 * w)) s) in
    let code_long : length code ≡ n = length_numbers 8 n (drop 4 s) in
    let numbers_long : length numbers ≡ e * 2 = length_numbers w (e * 2) (drop (8 + n * 8) s) in
    let long : length (code ++ words) ≡ n + d = length-append code words ∙ ap₂ (λ (a b : ℕ). a + b) code_long (length_numbers 8 d (drop (12 + n * 8 + e * (2 * w)) s)) in
    let memory : take (n + d) h.memory_read ≡ code ++ words =
    ap (take (n + d)) (h.read.memory ∙ ap (λ (x : Content). put_over (memory_in x) h.memory) t.is) ∙ take_at (code ++ words) (drop (length (code ++ words)) h.memory) (n + d) long in
    let edges : take (e * 2) h.numbers_read ≡ numbers =
    ap (take (e * 2)) (h.read.edges ∙ ap (λ (x : Content). put_over (edges_in x) h.numbers) t.is) ∙ take_at numbers (drop (length numbers) h.numbers) (e * 2) numbers_long in
    let held : numbers ≡ edges_in (read_of w s) = sym (ap edges_in t.is) in
    let so : WrittenSo w (code ++ words) n numbers p answer p' = subst (λ (x : List ℕ). WrittenSo w x n numbers p answer p') memory (subst (λ (x : List ℕ). WrittenSo w (take (n + d) h.memory_read) n x p answer p') edges h.written) in
    let bytes : parcel_of w (take n (code ++ words)) numbers (drop n (code ++ words)) ≡ s =
    ap₂ (λ (a b : List ℕ). parcel_of w a numbers b) (take_at code words n code_long) (drop_at code words n code_long) ∙ written_read w s code numbers words h.are_bytes t.is in
    let shape : call_shaped (length (code ++ words)) n (length numbers) ≡ true =
    ap₂ (λ (a b : ℕ). call_shaped a n b) long numbers_long ∙ takes n e d t.some_code t.code_limit t.edge_limit t.data_limit in
    record {
      memory = code ++ words;
      n = n;
      is_written = subst (λ (x : List ℕ). WrittenSo w (code ++ words) n x p answer p') held so;
      shape = subst (λ (x : List ℕ). call_shaped (length (code ++ words)) n (length x) ≡ true) held shape;
      same = subst (λ (x : List ℕ). parcel_of w (take n (code ++ words)) x (drop n (code ++ words)) ≡ s) held bytes;
    }

pub write_after_read : (w : ℕ) → WriteAfterRead w
write_after_read w =
    record {
      rising = λ s p p' answer h room r.
          let f = handed w s p p' answer h in
          subst (λ (x : List ℕ). WrittenBack x p answer p') f.same
          (rising_written w f.memory f.n _ p p' answer f.is_written f.shape (omega (arith, ap length f.same)) r);
      only = λ s p p' answer h b.
          let f = handed w s p p' answer h in
          only_rising w f.memory f.n _ p p' (length s)
          (subst (λ (a : Written). WrittenSo w f.memory f.n (edges_in (read_of w s)) p a p') b.size f.is_written);
      otherwise = λ s p p' answer h falls.
          let f = handed w s p p' answer h in
          falls_refused w f.memory f.n _ p p' answer f.is_written f.shape falls;
    }
