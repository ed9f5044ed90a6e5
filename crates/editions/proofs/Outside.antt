-- Edge numbers cut to 16 bits get the same verdict: an edge with a number above 65,535 is outside code before and after, and rules 7 and 8
-- look at nothing else of such an edge; where they pass, no number was cut.
use mathlib.Core.Path.{◌≡◌, refl, sym, ap, ◌∙◌}
use mathlib.Core.Bool.{Bool, true, not, ◌||◌}
use mathlib.Core.List.{List, [], ◌∷◌, ◌++◌}
use Prim.Native.Nat.{ℕ, zero, suc, ◌+◌, ◌*◌, ◌/◌, ◌%◌, ◌≤◌, ◌<◌}
use native.Mathlib.Omega.{arith}
use native.Mathlib.Decide.{dec_lt}
use native.Mathlib.Numerals.{add-one}
use lib.Dec.{leb, eqb}
use lib.ListN.{length, get_or, take, drop, set, length-set, drop_of_length-le}
use lib.Seq.{ext_get_or, drop-cons, take_at, sets}
use borrow.Author.Tests.{lt-ltb, le-ltb, le-leb, eqb-true}
use Rattle.lists.specs.Search.{lowest}
use Rattle.lists.specs.Places.{put_over}
use Rattle.lists.proofs.Bools.{and_left, and_right}
use Rattle.lists.proofs.Search.{lowest_ext, clean_of}
use Rattle.answers.specs.Shape.{memory_shaped, edges_shaped, call_shaped}
use Rattle.answers.specs.declared.Refusal.{Refusal}
use Rattle.answers.specs.declared.Place.{Place}
use Rattle.answers.specs.Faults.{fault, Verdict}
use Rattle.std.specs.Prelude.{Err}
use Rattle.isa.specs.declared.Technique.{Technique}
use Rattle.isa.specs.Instructions.{instr_at, is_jump}
use Rattle.graph.specs.Claim.{edge_count, jump_of, target_of}
use Rattle.graph.specs.Rules.{starts_at_no_jump, ends_outside_code}
use Rattle.graph.specs.Passes.{Within}
use Rattle.graph.proofs.Edges.{within_of}
use Rattle.checker.specs.Verdicts.{verdict_of}
use Rattle.checker.proofs.Rules.{broken, kept, kept_once, sized, few_edges}
use Rattle.lists.proofs.Places.{over_front}
use Rattle.editions.specs.Inside.{cut_of, cut_all}

-- ---- the first rules on edges: 7, 8, or every edge lies in code

module _ (t : Technique) (memory : List ℕ) (n : ℕ) (edges : List ℕ) (shape : call_shaped (length memory) n (length edges) ≡ true) where
  abbrev pub seven : ℕ
  seven = lowest (starts_at_no_jump memory n edges) (edge_count edges)

  abbrev pub eight : ℕ
  eight = lowest (ends_outside_code n edges) (edge_count edges)

  pub by_seven : seven < edge_count edges → verdict_of t memory n edges ≡ Err (fault Refusal.EdgeFromNoJump (Place.Edge seven))
  unfolding verdict_of
  by_seven l = kept_once _ _ _ _ (ap not shape) ∙ broken _ _ seven refl l

  pub by_eight : edge_count edges ≤ seven → eight < edge_count edges → verdict_of t memory n edges ≡ Err (fault Refusal.TargetOutsideCode (Place.Edge eight))
  unfolding verdict_of
  by_eight p l = kept_once _ _ _ _ (ap not shape) ∙ kept _ _ seven refl p ∙ broken _ _ eight refl l

  pub in_code : edge_count edges ≤ seven → edge_count edges ≤ eight → Within edges n
  in_code p q =
      let m = sized memory n (and_left (memory_shaped (length memory) n) (edges_shaped (length edges)) shape) in
      let few = few_edges (length edges) (and_right (memory_shaped (length memory) n) (edges_shaped (length edges)) shape) in
      within_of memory edges n m.code_limit few (clean_of _ _ seven refl p) (clean_of _ _ eight refl q)

-- ---- numbers that are cut

pub length_cut : (xs : List ℕ) → length (cut_all xs) ≡ length xs
unfolding cut_all
length_cut [] = refl
length_cut (x ∷ xs) = ap suc (length_cut xs)

cut_at : (xs : List ℕ) (i : ℕ) → get_or (cut_all xs) i 0 ≡ cut_of (get_or xs i 0)
unfolding cut_all
cut_at [] i = refl
cut_at (x ∷ xs) zero = refl
cut_at (x ∷ xs) (suc i) = cut_at xs i

small_kept : (x : ℕ) → x < 65536 → cut_of x ≡ x
small_kept x l = rw (lt-ltb x 65536 l)

-- a test that every address past the code passes does not see the cut
unseen : (n : ℕ) (f : ℕ → Bool) (x : ℕ) → n ≤ 2048 → (leb n (cut_of x) || f (cut_of x)) ≡ (leb n x || f x)
unseen n f x small = go (dec_lt x 65536)
  where
    go : Dec (x < 65536) → (leb n (cut_of x) || f (cut_of x)) ≡ (leb n x || f x)
    go (yes l) = ap (λ (y : ℕ). leb n y || f y) (small_kept x l)
    go (no l) = rw (le-ltb x 65536 (omega arith), le-leb n x (omega arith), le-leb n 65535 (omega arith))

module _ (t : Technique) (memory : List ℕ) (n : ℕ) (edges : List ℕ) (shape : call_shaped (length memory) n (length edges) ≡ true) where
  small : n ≤ 2048
  small = (sized memory n (and_left (memory_shaped (length memory) n) (edges_shaped (length edges)) shape)).code_limit

  even : length edges % 2 ≡ 0
  even = eqb-true _ _ (and_left (eqb (length edges % 2) 0) (leb (length edges) 4096) (and_right (memory_shaped (length memory) n) (edges_shaped (length edges)) shape))

  as_many : edge_count (cut_all edges) ≡ edge_count edges
  as_many = ap (λ (k : ℕ). k / 2) (length_cut edges)

  cut_shape : call_shaped (length memory) n (length (cut_all edges)) ≡ true
  cut_shape = ap (call_shaped (length memory) n) (length_cut edges) ∙ shape

  same_seven : seven t memory n (cut_all edges) cut_shape ≡ seven t memory n edges shape
  same_seven =
      lowest_ext _ (starts_at_no_jump memory n edges) _ (λ k l.
      ap (λ (x : ℕ). leb n x || not (is_jump (instr_at memory x))) (cut_at edges (2 * k))
      ∙ unseen n (λ x. not (is_jump (instr_at memory x))) (jump_of edges k) small)
      ∙ ap (lowest (starts_at_no_jump memory n edges)) as_many

  same_eight : eight t memory n (cut_all edges) cut_shape ≡ eight t memory n edges shape
  same_eight =
      lowest_ext _ (ends_outside_code n edges) _ (λ k l. ap (leb n) (cut_at edges (2 * k + 1)) ∙ outside (target_of edges k))
      ∙ ap (lowest (ends_outside_code n edges)) as_many
    where
      outside : (x : ℕ) → leb n (cut_of x) ≡ leb n x
      outside x = go (dec_lt x 65536)
        where
          go : Dec (x < 65536) → leb n (cut_of x) ≡ leb n x
          go (yes l) = ap (leb n) (small_kept x l)
          go (no l) = rw (le-ltb x 65536 (omega arith), le-leb n x (omega (arith, small)), le-leb n 65535 (omega (arith, small)))

  nothing_cut : Within edges n → cut_all edges ≡ edges
  nothing_cut w = ext_get_or 0 (cut_all edges) edges (length_cut edges) number
    where
      number : (i : ℕ) → i < length (cut_all edges) → get_or (cut_all edges) i 0 ≡ get_or edges i 0
      number i l = cut_at edges i ∙ small_kept (get_or edges i 0) (go (i % 2) refl)
        where
          go : (b : ℕ) → i % 2 ≡ b → get_or edges i 0 < 65536
          go zero e =
              let z : i ≡ 2 * (i / 2) = omega arith in
              let r = w.jumps (i / 2) (omega (arith, length_cut edges, even)) in
              let s = w.small in
              rw z (omega arith)
          go (suc b) e =
              let z : i ≡ 2 * (i / 2) + 1 = omega arith in
              let r = w.targets (i / 2) (omega (arith, length_cut edges, even)) in
              let s = w.small in
              rw z (omega arith)

  pub cut_verdict : verdict_of t memory n (cut_all edges) ≡ verdict_of t memory n edges
  cut_verdict = go (dec_lt (seven t memory n edges shape) (edge_count edges)) (dec_lt (eight t memory n edges shape) (edge_count edges))
    where
      go : Dec (seven t memory n edges shape < edge_count edges) → Dec (eight t memory n edges shape < edge_count edges)
          → verdict_of t memory n (cut_all edges) ≡ verdict_of t memory n edges
      go (yes p) q =
          by_seven t memory n (cut_all edges) cut_shape (omega (arith, same_seven, as_many))
          ∙ ap (λ (k : ℕ). Err (fault Refusal.EdgeFromNoJump (Place.Edge k))) same_seven
          ∙ sym (by_seven t memory n edges shape p)
      go (no p) (yes q) =
          by_eight t memory n (cut_all edges) cut_shape (omega (arith, same_seven, as_many)) (omega (arith, same_eight, as_many))
          ∙ ap (λ (k : ℕ). Err (fault Refusal.TargetOutsideCode (Place.Edge k))) same_eight
          ∙ sym (by_eight t memory n edges shape (omega arith) q)
      go (no p) (no q) = ap (verdict_of t memory n) (nothing_cut (in_code t memory n edges shape (omega arith) (omega arith)))

-- the check of the numbers that were put at the front of a place
pub cut_checked : (t : Technique) (memory : List ℕ) (n : ℕ) (edges rest : List ℕ) {low : List ℕ} {r : Verdict}
    → call_shaped (length memory) n (length edges) ≡ true → low ≡ cut_all edges ++ rest
    → r ≡ verdict_of t memory n (take (length edges) low) → r ≡ verdict_of t memory n edges
cut_checked t memory n edges rest {low} shape put h =
    let front : take (length edges) low ≡ cut_all edges = ap (take (length edges)) put ∙ take_at (cut_all edges) rest (length edges) (length_cut edges) in
    h ∙ ap (verdict_of t memory n) front ∙ cut_verdict t memory n edges shape

-- ---- the loop: what is still to be stored makes the whole

pub record Cutting (xs low₀ low : List ℕ) (i : ℕ) : Type 0 where
  pub within : i ≤ length xs
  pub same : sets low₀ 0 (cut_all xs) ≡ sets low i (cut_all (drop i xs))
  pub long : length low ≡ length low₀

pub cutting_goes_on : {xs low₀ low : List ℕ} {i x : ℕ} → Cutting xs low₀ low i → i < length xs → x ≡ cut_of (get_or xs i 0) → Cutting xs low₀ (set low i x) (i + 1)
unfolding cut_all
cutting_goes_on {xs} {low₀} {low} {i} {x} inv l q =
    record {
      within = omega arith;
      same = inv.same ∙ ap (λ (r : List ℕ). sets low i (cut_all r)) (drop-cons xs i 0 l)
          ∙ (λ j. sets (set low i (sym q j)) (sym (add-one i) j) (cut_all (drop (sym (add-one i) j) xs)));
      long = length-set low i x ∙ inv.long;
    }

pub cutting_ends : {xs low₀ low : List ℕ} {i : ℕ} → Cutting xs low₀ low i → length xs ≤ i → length xs ≤ length low₀ → low ≡ put_over (cut_all xs) low₀
unfolding cut_all
cutting_ends {xs} {low₀} {low} {i} inv l room =
    sym (inv.same ∙ ap (λ (r : List ℕ). sets low i (cut_all r)) (drop_of_length-le xs l))
    ∙ over_front (cut_all xs) low₀ (omega (arith, length_cut xs))
