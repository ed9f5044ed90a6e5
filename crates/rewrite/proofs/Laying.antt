-- Blocks put one after the other into a lent place, over any blocks: code, edges and map are all put so. What is past the blocks that are
-- put is what was there before.
use Prim.Native.Nat.{ℕ, suc, ◌+◌, ◌-◌, ◌*◌, ◌<◌, ◌≤◌}
use mathlib.Core.Path.{◌≡◌, refl, sym, ap, ◌∙◌}
use mathlib.Core.List.{List, [], ◌∷◌, ◌++◌}
use native.Mathlib.Omega.{arith}
use native.Mathlib.Numerals.{add-one}
use lib.ListN.{length, get_or, set, take, drop, get_or-append, length-drop}
use lib.Seq.{sets, length-sets, length-take-le, get_or-append-add, get_or-drop}
use Rattle.lists.proofs.Places.{sets_append, over_front}
use Rattle.isa.specs.declared.Technique.{Technique}
use Rattle.graph.specs.Claim.{jump_of, target_of}
use Rattle.guarded.specs.Blocks.{start_of, laid}
use Rattle.guarded.specs.Rewrite.{new_edge}
use Rattle.guarded.proofs.Blocks.{laid_length, sets_laid, start_ones, ones_length, ones_at}
use Rattle.guarded.proofs.Claims.{pair, start_pairs}
use Rattle.rewrite.specs.Inside.{map_plain, entries_plain, Mapped, Putting}

pub put_none : (block : ℕ → List ℕ) (before : List ℕ) → Putting block before before 0
unfolding laid
put_none block before = record { long = refl; left = refl }

pub put_all : {block : ℕ → List ℕ} {before out : List ℕ} {a m : ℕ} → Putting block before out a → a ≡ m → out ≡ sets before 0 (laid block m)
put_all {block} {before} p e = p.left ∙ ap (λ (x : ℕ). sets before 0 (laid block x)) e

module _ (block : ℕ → List ℕ) (size : ℕ → ℕ) (fit : (a : ℕ) → length (block a) ≡ size a) where
  pub put_more : {before out next : List ℕ} {a : ℕ} → Putting block before out a → next ≡ sets out (start_of size a) (block a)
      → Putting block before next (a + 1)
  put_more {before} {out} {next} {a} p e =
      record {
        long = ap length e ∙ length-sets out (start_of size a) (block a) ∙ p.long;
        left = e ∙ ap (λ (l : List ℕ). sets l (start_of size a) (block a)) p.left ∙ sym (sets_laid block size fit before a);
      }

  -- and one number behind them
  pub end_put : {before out : List ℕ} {a m : ℕ} (at x : ℕ) → Putting block before out a → a ≡ m → at ≡ start_of size m
      → set out at x ≡ sets before 0 (laid block m ++ (x ∷ []))
  end_put {before} {out} {a} {m} at x p e z =
      let q : at ≡ 0 + length (laid block m) = omega (arith, laid_length block size fit m) in
      ap (λ (l : List ℕ). set l at x) (put_all p e)
      ∙ ap (λ (y : ℕ). set (sets before 0 (laid block m)) y x) q
      ∙ sym (sets_append (laid block m) (x ∷ []) before 0)

  -- past them
  pub put_past : {before out : List ℕ} {a : ℕ} (x : ℕ) → Putting block before out a → start_of size a ≤ length before → start_of size a ≤ x
      → get_or out x 0 ≡ get_or before x 0
  put_past {before} {out} {a} x p l h =
      let len = laid_length block size fit a in
      let place : x ≡ length (laid block a) + (x - length (laid block a)) = omega (arith, len) in
      let back : length (laid block a) + (x - length (laid block a)) ≡ x = omega (arith, len) in
      ap (λ (xs : List ℕ). get_or xs x 0) (p.left ∙ over_front (laid block a) before (omega (arith, len)))
      ∙ ap (λ (y : ℕ). get_or (laid block a ++ drop (length (laid block a)) before) y 0) place
      ∙ get_or-append-add (laid block a) (drop (length (laid block a)) before) (x - length (laid block a)) 0
      ∙ get_or-drop (length (laid block a)) before (x - length (laid block a)) 0
      ∙ ap (λ (y : ℕ). get_or before y 0) back

-- blocks of one number
module _ (f : ℕ → ℕ) where
  abbrev ones : ℕ → List ℕ
  ones a = f a ∷ []

  pub ones_more : {before out : List ℕ} {a v : ℕ} → Putting ones before out a → v ≡ f a → Putting ones before (set out a v) (a + 1)
  ones_more {before} {out} {a} p e =
      put_more ones (λ _. 1) (λ a. refl) p (ap (set out a) e ∙ ap (λ (x : ℕ). sets out x (f a ∷ [])) (sym (start_ones a)))

  pub ones_put : {before out : List ℕ} {a : ℕ} (x : ℕ) → Putting ones before out a → a ≤ length before → x < a → get_or out x 0 ≡ f x
  ones_put {before} {out} {a} x p l h =
      let len = ones_length f a in
      ap (λ (xs : List ℕ). get_or xs x 0) (p.left ∙ over_front (laid ones a) before (omega (arith, len)))
      ∙ get_or-append (laid ones a) (drop (length (laid ones a)) before) 0 x (omega (arith, len))
      ∙ ones_at f a x h

  pub ones_past : {before out : List ℕ} {a : ℕ} (x : ℕ) → Putting ones before out a → a ≤ length before → a ≤ x → get_or out x 0 ≡ get_or before x 0
  ones_past {a = a} x p l h =
      put_past ones (λ _. 1) (λ a. refl) x p (omega (arith, start_ones a)) (omega (arith, start_ones a))

-- one edge more
pub edge_more : {memory : List ℕ} {n : ℕ} {edges entries before out : List ℕ} {k j at x : ℕ} → Mapped memory n edges entries
    → Putting (new_edge Technique.Plain memory edges) before out k → at ≡ map_plain memory n edges (suc j) → j ≡ jump_of edges k
    → x ≡ target_of edges k → x < n
    → Putting (new_edge Technique.Plain memory edges) before (set (set out (2 * k) (at - 1)) (2 * k + 1) (get_or entries x 0)) (k + 1)
unfolding new_edge
edge_more {memory} {n} {edges} {entries} {before} {out} {k} {j} {at} {x} m p ea ej ex l =
    put_more (new_edge Technique.Plain memory edges) (λ _. 2) (pair Technique.Plain memory edges) p
    (rw (start_pairs k, m.each x l, ea, ej, ex, add-one) refl)

-- the map, once all entries are put
pub mapped_by : {memory : List ℕ} {n : ℕ} {edges entries : List ℕ} (before : List ℕ) → entries ≡ sets before 0 (entries_plain memory n edges)
    → n ≤ length before → Mapped memory n edges entries
mapped_by {memory} {n} {edges} {entries} before e l =
    let all : Putting (λ a. map_plain memory n edges a ∷ []) before entries n =
    record { long = ap length e ∙ length-sets before 0 (entries_plain memory n edges); left = e } in
    record { long = omega (arith, all.long); each = λ a h. ones_put (map_plain memory n edges) a all l h }

-- what is put over a front is put over what was there before that front
pub over_front_put : (xs after before : List ℕ) (k : ℕ) → length xs ≡ k → length after ≡ length before → drop k after ≡ drop k before
    → k ≤ length before → sets after 0 xs ≡ sets before 0 xs
over_front_put xs after before k e l d h =
    over_front xs after (omega arith)
    ∙ ap (λ (j : ℕ). xs ++ drop j after) e
    ∙ ap (λ (ys : List ℕ). xs ++ ys) d
    ∙ ap (λ (j : ℕ). xs ++ drop j before) (sym e)
    ∙ sym (over_front xs before (omega arith))

-- the k numbers before a place
pub part_length : (k : ℕ) (xs : List ℕ) (end : ℕ) → k ≤ end → end ≤ length xs → length (take (end - (end - k)) (drop (end - k) xs)) ≡ k
part_length k xs end l h =
    let z : end - (end - k) ≡ k = omega arith in
    length-take-le (end - (end - k)) (drop (end - k) xs) (omega (arith, length-drop (end - k) xs)) ∙ z
