-- How a parcel's reading goes, section by section: on from each count, and back from what the bytes hold. An edge number has w bytes.
use mathlib.Core.Path.{◌≡◌, refl, sym, ap, ◌∙◌}
use mathlib.Core.Bool.{Bool, true, false, cond, ◌||◌}
use mathlib.Core.List.{List, [], ◌∷◌}
use Prim.Native.Nat.{ℕ, ◌+◌, ◌-◌, ◌*◌, ◌≤◌, ◌<◌}
use native.Mathlib.Omega.{arith}
use native.Mathlib.Nat.{mul-one}
use lib.Dec.{ltb}
use lib.ListN.{length, drop, length-drop}
use lib.Seq.{drop-drop}
use borrow.Author.Tests.{ltb-false}
use Rattle.lists.proofs.Bools.{clash}
use Rattle.answers.specs.declared.Refusal.{Refusal}
use Rattle.parcel.specs.Bytes.{number_of, numbers_of}
use Rattle.parcel.specs.Parcel.{Content, holds, refused, count_of, after_count, section_from, at_end, read_of}
use Rattle.std.specs.Prelude.{Result, Ok, Err}

-- ---- a count

-- what a count that is not refused says in numbers
pub record Counted (size low : ℕ) (s : List ℕ) (k : ℕ) : Type 0 where
  pub is : k ≡ number_of 4 s
  pub from : low ≤ k
  pub upto : k ≤ 2048
  pub room : 4 + k * size ≤ length s

-- a test that does not refuse
passed : (b : Bool) (why : Refusal) (x : Result ℕ Refusal) {k : ℕ} → cond b (Err why) x ≡ Ok k → (b ≡ false) × (x ≡ Ok k)
passed true why x h = clash (cc)
passed false why x h = (refl, h)

pub neither : (a b : Bool) → (a || b) ≡ false → (a ≡ false) × (b ≡ false)
neither true b h = clash (cc)
neither false b h = (refl, h)

pub counted : (size low : ℕ) (s : List ℕ) {k : ℕ} → count_of size low s ≡ Ok k → Counted size low s k
unfolding count_of
counted size low s {k} h =
    let x = number_of 4 s in
    let items = cond (ltb (length s - 4) (x * size)) (Err Refusal.ItemsMissing) (Ok x) in
    let limits = cond (ltb x low || ltb 2048 x) (Err Refusal.CountLimit) items in
    let a = passed (ltb (length s) 4) Refusal.CountMissing limits h in
    let b = passed (ltb x low || ltb 2048 x) Refusal.CountLimit items a.1 in
    let l = neither (ltb x low) (ltb 2048 x) b.0 in
    let c = passed (ltb (length s - 4) (x * size)) Refusal.ItemsMissing (Ok x) b.1 in
    let e : k ≡ number_of 4 s = cc c.1 in
    record {
      is = e;
      from = omega (arith, ltb-false x low l.0);
      upto = omega (arith, ltb-false 2048 x l.1);
      room = rw e (omega (arith, ltb-false (length s) 4 a.0, ltb-false (length s - 4) (x * size) c.0));
    }

-- ---- a section

module _ (w p low : ℕ) (s : List ℕ) (rest : List ℕ → List ℕ → Content) where
  pub goes_on : {k : ℕ} → count_of (p * w) low s ≡ Ok k → section_from w p low s rest ≡ rest (numbers_of w (k * p) (drop 4 s)) (drop (4 + k * (p * w)) s)
  unfolding section_from
  goes_on h = ap (λ (q : Result ℕ Refusal). after_count q (λ k. rest (numbers_of w (k * p) (drop 4 s)) (drop (4 + k * (p * w)) s))) h

  stops : {why : Refusal} → count_of (p * w) low s ≡ Err why → section_from w p low s rest ≡ refused why
  unfolding section_from
  stops h = ap (λ (q : Result ℕ Refusal). after_count q (λ k. rest (numbers_of w (k * p) (drop 4 s)) (drop (4 + k * (p * w)) s))) h

bytes_follow : (s : List ℕ) (x : Content) → 0 < length s → at_end s x ≡ refused Refusal.TrailingBytes
unfolding at_end
bytes_follow [] x h = absurd (omega arith)
bytes_follow (byte ∷ s) x h = refl

none_follow : (s : List ℕ) (x : Content) → length s ≤ 0 → at_end s x ≡ x
unfolding at_end
none_follow [] x h = refl
none_follow (byte ∷ s) x h = absurd (omega arith)

-- ---- a parcel, on from its counts: where each section stands

module _ (w : ℕ) (s : List ℕ) where
  pub code_refused : {why : Refusal} → count_of 8 1 s ≡ Err why → read_of w s ≡ refused why
  unfolding read_of
  code_refused h = stops 8 1 1 s _ h

  module _ {n : ℕ} (h₁ : count_of 8 1 s ≡ Ok n) where
    pub edges_refused : {why : Refusal} → count_of (2 * w) 0 (drop (4 + n * 8) s) ≡ Err why → read_of w s ≡ refused why
    unfolding read_of
    edges_refused h = goes_on 8 1 1 s _ h₁ ∙ stops w 2 0 _ _ h

    module _ {e : ℕ} (h₂ : count_of (2 * w) 0 (drop (4 + n * 8) s) ≡ Ok e) where
      abbrev data_at : ℕ
      data_at = 4 + n * 8 + (4 + e * (2 * w))

      abbrev code : List ℕ
      code = numbers_of 8 (n * 1) (drop 4 s)

      abbrev edges : List ℕ
      edges = numbers_of w (e * 2) (drop 4 (drop (4 + n * 8) s))

      third : read_of w s ≡ section_from 8 1 0 (drop data_at s) (λ words s₃. at_end s₃ (holds code edges words))
      unfolding read_of
      third = goes_on 8 1 1 s _ h₁ ∙ goes_on w 2 0 _ _ h₂ ∙ rw (drop-drop (4 + e * (2 * w)) (4 + n * 8) s)

      pub data_refused : {why : Refusal} → count_of 8 0 (drop data_at s) ≡ Err why → read_of w s ≡ refused why
      data_refused h = third ∙ stops 8 1 0 _ _ h

      module _ {d : ℕ} (h₃ : count_of 8 0 (drop data_at s) ≡ Ok d) where
        last : read_of w s ≡ at_end (drop (data_at + (4 + d * 8)) s) (holds code edges (numbers_of 8 (d * 1) (drop 4 (drop data_at s))))
        last = third ∙ goes_on 8 1 0 _ _ h₃ ∙ rw (drop-drop (4 + d * 8) data_at s)

        pub bytes_left : data_at + (4 + d * 8) < length s → read_of w s ≡ refused Refusal.TrailingBytes
        bytes_left l = last ∙ bytes_follow _ _ (simp length-drop (omega arith))

        pub all_read : length s ≤ data_at + (4 + d * 8)
            → read_of w s ≡ holds (numbers_of 8 n (drop 4 s)) (numbers_of w (e * 2) (drop (4 + n * 8 + 4) s)) (numbers_of 8 d (drop (data_at + 4) s))
        all_read l = last ∙ none_follow _ _ (simp length-drop (omega arith)) ∙ simp (mul-one, drop-drop)

-- ---- a parcel, back from what it holds

-- the counts that led there
pub record Sectioned (w : ℕ) (s : List ℕ) : Type 0 where
  pub n : ℕ
  pub e : ℕ
  pub d : ℕ
  pub code_count : count_of 8 1 s ≡ Ok n
  pub edge_count : count_of (2 * w) 0 (drop (4 + n * 8) s) ≡ Ok e
  pub data_count : count_of 8 0 (drop (4 + n * 8 + (4 + e * (2 * w))) s) ≡ Ok d
  pub end : length s ≤ 4 + n * 8 + (4 + e * (2 * w)) + (4 + d * 8)

count_led : (q : Result ℕ Refusal) (rest : ℕ → Content) {a b c : List ℕ} → after_count q rest ≡ holds a b c → (k : ℕ) × (q ≡ Ok k) × (rest k ≡ holds a b c)
count_led (Ok k) rest h = (k, refl, h)
count_led (Err why) rest h = clash (cc)

led : (w p low : ℕ) (s : List ℕ) (rest : List ℕ → List ℕ → Content) {a b c : List ℕ} → section_from w p low s rest ≡ holds a b c
    → (k : ℕ) × (count_of (p * w) low s ≡ Ok k) × (rest (numbers_of w (k * p) (drop 4 s)) (drop (4 + k * (p * w)) s) ≡ holds a b c)
unfolding section_from
led w p low s rest h = count_led (count_of (p * w) low s) _ h

ended : (s : List ℕ) (x : Content) {a b c : List ℕ} → at_end s x ≡ holds a b c → length s ≤ 0
unfolding at_end
ended [] x h = omega arith
ended (byte ∷ s) x h = clash (cc)

pub sectioned : (w : ℕ) (s : List ℕ) {code edges words : List ℕ} → read_of w s ≡ holds code edges words → Sectioned w s
unfolding read_of
sectioned w s {code} {edges} {words} h =
    let a = led 8 1 1 s (λ code s₁. section_from w 2 0 s₁ (λ edges s₂. section_from 8 1 0 s₂ (λ words s₃. at_end s₃ (holds code edges words)))) h in
    let s₁ = drop (4 + a.0 * 8) s in
    let code₁ = numbers_of 8 (a.0 * 1) (drop 4 s) in
    let b = led w 2 0 s₁ (λ edges s₂. section_from 8 1 0 s₂ (λ words s₃. at_end s₃ (holds code₁ edges words))) a.2 in
    let s₂ = drop (4 + b.0 * (2 * w)) s₁ in
    let edges₁ = numbers_of w (b.0 * 2) (drop 4 s₁) in
    let c = led 8 1 0 s₂ (λ words s₃. at_end s₃ (holds code₁ edges₁ words)) b.2 in
    let s₂-at = drop-drop (4 + b.0 * (2 * w)) (4 + a.0 * 8) s in
    record {
      n = a.0;
      e = b.0;
      d = c.0;
      code_count = a.1;
      edge_count = b.1;
      data_count = ap (count_of 8 0) (sym s₂-at) ∙ c.1;
      end = omega (arith, simp length-drop at (ended (drop (4 + c.0 * 8) s₂) (holds code₁ edges₁ (numbers_of 8 (c.0 * 1) (drop 4 s₂))) c.2));
    }
