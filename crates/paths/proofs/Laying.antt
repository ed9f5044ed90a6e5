-- A trail walked back: how long it is, and its addresses put at the front of a place, the last one first.
use Rattle.std.proofs.Common.{ℕ, suc, ◌+◌, ◌-◌, ◌<◌, ◌≤◌, ◌≡◌, refl, sym, ap, subst, ◌∙◌, List, [], ◌∷◌, ◌++◌, take, arith}
use Rattle.std.proofs.lemmas.List.{take-append-drop, length-take-le}
use Rattle.std.proofs.Math.Seq.{take-suc, set-append_seam}
use mathlib.Core.List.{append_assoc, append-nil}
use lib.ListN.{length, get_or, set, drop, length-set}
use Rattle.lists.specs.Places.{put_over}
use Rattle.lists.proofs.Bools.{clash}
use Rattle.paths.specs.declared.reached.Reached.{Reached}
use Rattle.paths.specs.Inside.{at, from, Back, Trail}
use Rattle.paths.proofs.Orders.{longer}
use Rattle.paths.proofs.Trails.{trail_at, one_trail}

-- the trail to place i without its last address
record Shorter (r : Reached) (i : ℕ) (way : List ℕ) : Type 0 where
  pub some : 0 < i
  pub part : List ℕ
  pub trail : Trail r (from r i) part
  pub last : way ≡ part ++ at r i ∷ []

data Walked (r : Reached) (i : ℕ) (way : List ℕ) : Type 0 where
  begins : i ≡ 0 → way ≡ at r i ∷ [] → Walked r i way
  goes : Shorter r i way → Walked r i way

walked : {r : Reached} {i : ℕ} {way : List ℕ} → Trail r i way → Walked r i way
walked Trail.Begin = Walked.begins refl refl
walked (Trail.Next {way} l t) = Walked.goes (record { some = l; part = way; trail = t; last = refl })

-- k addresses were counted on the way from `end` back to place i
pub record Counting (r : Reached) (end i k : ℕ) : Type 0 where
  pub within : i < r.len
  pub few : k + i ≤ end + 1
  pub left : (way : List ℕ) → Trail r end way → (part : List ℕ) × Trail r i part × (k + length part ≡ length way + 1)

module _ (r : Reached) (back : Back r) where
  pub counting_none : (end : ℕ) → end < r.len → Counting r end end 1
  counting_none end l = record { within = l; few = omega arith; left = λ way t. (way, t, omega arith) }

  pub counting_more : (end i k : ℕ) → 0 < i → Counting r end i k → Counting r end (from r i) (k + 1)
  counting_more end i k p h =
      record { within = omega (arith, back i p h.within, h.within); few = omega (arith, h.few, back i p h.within); left = λ way t. let w = h.left way t in go (length way) w.0 w.2 (walked w.1) }
    where
      go : (total : ℕ) (part : List ℕ) → k + length part ≡ total + 1 → Walked r i part
          → (less : List ℕ) × Trail r (from r i) less × (k + 1 + length less ≡ total + 1)
      go total part e (Walked.begins z q) = clash (omega (arith, p, z))
      go total part e (Walked.goes s) = (s.part, s.trail, omega (arith, e, ap length s.last, longer s.part (at r i)))

  pub counting_all : (end k : ℕ) → Counting r end 0 k → (way : List ℕ) → Trail r end way → k ≡ length way
  counting_all end k h way t = let w = h.left way t in omega (arith, w.2, ap length (one_trail w.1 Trail.Begin))

-- of the addresses of a way the first k are still to be put, and lead to place i; the others stand in the place
pub record Laid (r : Reached) (i k : ℕ) (way old place : List ℕ) : Type 0 where
  pub front : List ℕ
  pub rest : List ℕ
  pub parts : front ++ rest ≡ way
  pub many : length front ≡ k
  pub trail : 0 < k → Trail r i front
  pub stands : place ≡ take k old ++ (rest ++ drop (length way) old)

pub record Laying (r : Reached) (end i k : ℕ) (old place : List ℕ) : Type 0 where
  pub within : 0 < k → i < r.len
  pub long : length place ≡ length old
  pub laid : (way : List ℕ) → Trail r end way → Laid r i k way old place

module _ (r : Reached) (back : Back r) (end : ℕ) (low : end < r.len) (old : List ℕ) where
  pub laying_none : (k : ℕ) → ((way : List ℕ) → Trail r end way → k ≡ length way) → Laying r end end k old old
  laying_none k e =
      record {
        within = λ _. low;
        long = refl;
        laid = λ way t.
            record {
              front = way;
              rest = [];
              parts = append-nil way;
              many = sym (e way t);
              trail = λ _. t;
              stands = rw (← e way t) (sym (take-append-drop k old));
            };
      }

  laying_more : (i k : ℕ) (place : List ℕ) → k < length old → Laying r end i (k + 1) old place
      → Laying r end (from r i) k old (set place k (at r i))
  laying_more i k place room h =
      record { within = λ p. let w = trail_at back end low in within p w.0 (h.laid w.0 w.1); long = length-set place k (at r i) ∙ h.long; laid = λ way t. let d = h.laid way t in go way d (walked (d.trail (omega arith))) }
    where
      within : 0 < k → (way : List ℕ) → Laid r i (k + 1) way old place → from r i < r.len
      within p way d = go (walked (d.trail (omega arith)))
        where
          go : Walked r i d.front → from r i < r.len
          go (Walked.begins z q) = clash (omega (arith, p, d.many, ap length q))
          go (Walked.goes s) = let l = h.within (omega arith) in omega (arith, back i s.some l, l)

      put : (way : List ℕ) (d : Laid r i (k + 1) way old place) → set place k (at r i) ≡ take k old ++ ((at r i ∷ d.rest) ++ drop (length way) old)
      put way d =
          let next : k + 1 ≡ suc k = omega arith in
          let split : place ≡ take k old ++ get_or old k 0 ∷ (d.rest ++ drop (length way) old) =
          d.stands
          ∙ ap (λ (x : ℕ). take x old ++ (d.rest ++ drop (length way) old)) next
          ∙ ap (λ (x : List ℕ). x ++ (d.rest ++ drop (length way) old)) (take-suc old k 0 room)
          ∙ append_assoc (take k old) (get_or old k 0 ∷ []) (d.rest ++ drop (length way) old) in
          ap (λ (x : List ℕ). set x k (at r i)) split
          ∙ ap (λ (x : ℕ). set (take k old ++ get_or old k 0 ∷ (d.rest ++ drop (length way) old)) x (at r i)) (sym (length-take-le k old (omega (arith, room))))
          ∙ set-append_seam (take k old) (get_or old k 0) (d.rest ++ drop (length way) old) (at r i)

      go : (way : List ℕ) (d : Laid r i (k + 1) way old place) → Walked r i d.front → Laid r (from r i) k way old (set place k (at r i))
      go way d (Walked.begins z q) =
          let none : k ≡ 0 = omega (arith, d.many, ap length q) in
          record {
            front = [];
            rest = at r i ∷ d.rest;
            parts = ap (λ (x : List ℕ). x ++ d.rest) (sym q) ∙ d.parts;
            many = sym none;
            trail = λ p. clash (omega (arith, none, p));
            stands = put way d;
          }
      go way d (Walked.goes s) =
          record {
            front = s.part;
            rest = at r i ∷ d.rest;
            parts = sym (append_assoc s.part (at r i ∷ []) d.rest) ∙ ap (λ (x : List ℕ). x ++ d.rest) (sym s.last) ∙ d.parts;
            many = omega (arith, d.many, ap length s.last, longer s.part (at r i));
            trail = λ _. s.trail;
            stands = put way d;
          }

  pub laying_back : (i k : ℕ) (place : List ℕ) → 0 < k → k ≤ length old → Laying r end i k old place
      → Laying r end (from r i) (k - 1) old (set place (k - 1) (at r i))
  laying_back i k place p l h =
      let e : k ≡ k - 1 + 1 = omega (arith, p) in
      laying_more i (k - 1) place (omega (arith, p, l)) (subst (λ (x : ℕ). Laying r end i x old place) e h)

  pub laying_all : (i : ℕ) (place : List ℕ) → Laying r end i 0 old place → (way : List ℕ) → Trail r end way → place ≡ put_over way old
  laying_all i place h way t = let d = h.laid way t in d.stands ∙ go way d d.front refl
    where
      go : (way : List ℕ) (d : Laid r i 0 way old place) (front : List ℕ) → front ≡ d.front → d.rest ++ drop (length way) old ≡ way ++ drop (length way) old
      go way d [] e = ap (λ (x : List ℕ). x ++ drop (length way) old) (ap (λ (x : List ℕ). x ++ d.rest) e ∙ d.parts)
      go way d (x ∷ front) e = clash (omega (arith, d.many, ap length e))
