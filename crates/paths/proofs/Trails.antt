-- The addresses of the queue stand in the sequence of their best paths (`Orders`), which are the trails that lead to them; so the trail to
-- the first place where the address asked for stands is its best path, and where it stands nowhere there is none.
use Rattle.std.proofs.Common.{ℕ, zero, suc, ◌+◌, ◌<◌, ◌≤◌, ◌≡◌, ◌≢◌, ◌⊎◌, refl, sym, ap, subst, Bool, true, List, [], ◌∷◌, ◌++◌, arith}
use mathlib.Core.Logic.{inl, inr, ⊎_elim}
use native.Mathlib.Decide.{dec_lt}
use native.Mathlib.Nat.{eq-or-lt_of_le}
use lib.ListN.{length}
use Rattle.lists.proofs.Bools.{clash}
use Rattle.graph.specs.Paths.{Path}
use Rattle.paths.specs.declared.reached.Reached.{Reached}
use Rattle.paths.specs.Shortest.{PathTo, NoPath, Best}
use Rattle.paths.specs.Inside.{at, from, Back, Queue, Front, Trail}
use Rattle.paths.proofs.Orders.{longer, Ahead, ahead_last, ahead_more, AtMost, most_on, most_more, most_length, best_by}

pub trail_at : {r : Reached} → Back r → (i : ℕ) → i < r.len → (way : List ℕ) × Trail r i way
trail_at {r} back i l = up (i + 1) i (omega arith) l
  where
    up : (k i : ℕ) → i < k → i < r.len → (way : List ℕ) × Trail r i way
    up zero i h l = clash (omega (arith, h))
    up (suc k) i h l = go (λ j. up k j) (dec_lt 0 i)
      where
        go : ((j : ℕ) → j < k → j < r.len → (way : List ℕ) × Trail r j way) → Dec (0 < i) → (way : List ℕ) × Trail r i way
        go rest (yes p) =
            let b = back i p l in
            let w = rest (from r i) (omega (arith, b, h)) (omega (arith, b, l)) in
            (w.0 ++ at r i ∷ [], Trail.Next p w.1)
        go rest (no p) = let z : i ≡ 0 = omega (arith, p) in rw z (at r 0 ∷ [], Trail.Begin)

pub one_trail : {r : Reached} {i : ℕ} {p q : List ℕ} → Trail r i p → Trail r i q → p ≡ q
one_trail Trail.Begin Trail.Begin = refl
one_trail Trail.Begin (Trail.Next l u) = clash (omega (arith, l))
one_trail (Trail.Next l t) Trail.Begin = clash (omega (arith, l))
one_trail {r} {i} (Trail.Next l t) (Trail.Next h u) = ap (λ (way : List ℕ). way ++ at r i ∷ []) (one_trail t u)

pub trail_some : {r : Reached} {i : ℕ} {p : List ℕ} → Trail r i p → 0 < length p
trail_some Trail.Begin = omega arith
trail_some {r} (Trail.Next {i} {way} l t) = omega (arith, longer way (at r i))

pub path_some : {follows : ℕ → ℕ → Bool} {a : ℕ} {way : List ℕ} → PathTo follows a way → 0 < length way
path_some Path.Start = omega arith
path_some (Path.On {q = q} {way = way} p e) = omega (arith, longer way q)

module _ (follows : ℕ → ℕ → Bool) (n : ℕ) {r : Reached} (queue : Queue follows n r) where
  trail_path : {i : ℕ} {way : List ℕ} → Trail r i way → i < r.len → PathTo follows (at r i) way
  trail_path Trail.Begin l = rw queue.starts Path.Start
  trail_path (Trail.Next {i} p t) l = Path.On (trail_path t (omega (arith, queue.back i p l, l))) (queue.leads i p l)

  -- an earlier place has a better trail
  trail_order : {j : ℕ} {q : List ℕ} → Trail r j q → {i : ℕ} {p : List ℕ} → Trail r i p → i < j → j < r.len → Ahead p q
  trail_order Trail.Begin t l h = clash (omega (arith, l))
  trail_order {j} (Trail.Next {way = way} pj u) Trail.Begin l h = Ahead.shorter (omega (arith, longer way (at r j), trail_some u))
  trail_order {j} (Trail.Next {way = v} pj u) {i} (Trail.Next {way = w} pi t) l h =
      ⊎_elim
      (λ s. ahead_more (at r i) (at r j) (trail_order u t s (omega (arith, queue.back j pj h, h))))
      (λ e.
      let same : w ≡ v = one_trail (subst (λ (x : ℕ). Trail r x w) e.0 t) u in
      rw same (ahead_last v (at r i) (at r j) e.1))
      (queue.order i j pi l h)

  trail_most : {i j : ℕ} {p q : List ℕ} → i ≤ j → j < r.len → Trail r i p → Trail r j q → AtMost p q
  trail_most {i} {j} {p} {q} l h t u =
      ⊎_elim
      (λ e. inl (one_trail t (subst (λ (x : ℕ). Trail r x q) (sym e) u)))
      (λ s. inr (trail_order u t s h))
      (eq-or-lt_of_le l)

  -- whether a trail that is no worse than q leads to where q leads, or the one to `head`, which is next, is better
  record Arrived (a : ℕ) (q : List ℕ) : Type 0 where
    pub place : ℕ
    pub within : place < r.len
    pub here : at r place ≡ a
    pub way : List ℕ
    pub trail : Trail r place way
    pub most : AtMost way q

  record Beyond (head : ℕ) (q : List ℕ) : Type 0 where
    pub within : head < r.len
    pub way : List ℕ
    pub trail : Trail r head way
    pub ahead : length way < length q

  module _ (head : ℕ) (front : Front follows n r head) where
    -- one step more than a path to where the place k stands
    stepped : {a : ℕ} (v : ℕ) {q : List ℕ} → PathTo follows a q → follows a v ≡ true → (w : Arrived a q) → Dec (w.place < head)
        → Arrived v (q ++ v ∷ []) ⊎ Beyond head (q ++ v ∷ [])
    stepped v {q} path e w (yes l) =
        let s = front.passed w.place v l (rw w.here e) in inl (go s.0 s.1 s.2 s.3 (dec_lt 0 s.0))
      where
        go : (i : ℕ) → i < r.len → at r i ≡ v → from r i ≤ w.place → Dec (0 < i) → Arrived v (q ++ v ∷ [])
        go i h z f (yes p) =
            let b = queue.back i p h in
            let t = trail_at queue.back (from r i) (omega (arith, b, h)) in
            record {
              place = i;
              within = h;
              here = z;
              way = t.0 ++ at r i ∷ [];
              trail = Trail.Next p t.1;
              most = rw z (most_more v (most_on (trail_most f w.within t.1 w.trail) w.most));
            }
        go i h z f (no p) =
            let first : i ≡ 0 = omega (arith, p) in
            record {
              place = 0;
              within = queue.some;
              here = rw first at z;
              way = at r 0 ∷ [];
              trail = Trail.Begin;
              most = inr (Ahead.shorter (omega (arith, longer q v, path_some path)));
            }
    stepped v {q} path e w (no l) =
        let here : head < r.len = omega (arith, l, w.within) in
        let t = trail_at queue.back head here in
        inr
        (record {
          within = here;
          way = t.0;
          trail = t.1;
          ahead = omega (arith, longer q v, most_length (most_on (trail_most (omega (arith, l)) w.within t.1 w.trail) w.most));
        })

    arrives : {a : ℕ} {q : List ℕ} → PathTo follows a q → Arrived a q ⊎ Beyond head q
    arrives Path.Start =
        inl
        (record {
          place = 0;
          within = queue.some;
          here = queue.starts;
          way = at r 0 ∷ [];
          trail = Trail.Begin;
          most = inl (ap (λ (x : ℕ). x ∷ []) queue.starts);
        })
    arrives (Path.On {q = v} {way = q} path e) =
        ⊎_elim
        (λ w. stepped v path e w (dec_lt w.place head))
        (λ b. inr (record { within = b.within; way = b.way; trail = b.trail; ahead = omega (arith, longer q v, b.ahead) }))
        (arrives path)

    module _ (address : ℕ) (others : (h : ℕ) → h < head → at r h ≢ address) where
      pub best_there : head < r.len → at r head ≡ address → (way : List ℕ) → Trail r head way → Best follows address way
      best_there l e way t =
          best_by follows address way (rw e at (trail_path t l)) (λ other path. ⊎_elim (reached other) (beyond other) (arrives path))
        where
          reached : (other : List ℕ) → Arrived address other → AtMost way other
          reached other w = go (dec_lt w.place head)
            where
              go : Dec (w.place < head) → AtMost way other
              go (yes h) = absurd (others w.place h w.here)
              go (no h) = most_on (trail_most (omega (arith, h)) w.within t w.trail) w.most

          beyond : (other : List ℕ) → Beyond head other → AtMost way other
          beyond other b = inr (Ahead.shorter (omega (arith, ap length (one_trail t b.trail), b.ahead)))

      pub none_there : r.len ≤ head → NoPath follows address
      none_there l way path =
          ⊎_elim (λ w. others w.place (omega (arith, l, w.within)) w.here) (λ b. omega (arith, b.within, l)) (arrives path)
