-- The queue of the search, over any relation "q follows p" between addresses below n: what holds at its start, what one address more
-- leaves, and what is left when the successors of one address were noted.
use Rattle.std.proofs.Common.{ℕ, ◌+◌, ◌<◌, ◌≤◌, ◌≡◌, ◌≢◌, ◌⊎◌, refl, sym, ap, subst, ◌∙◌, Bool, true, false, cond, ◌||◌, arith}
use mathlib.Core.Logic.{inl, inr, ⊎_elim}
use native.Mathlib.Decide.{dec_lt, ℕ_discrete}
use native.Mathlib.Nat.{eq-or-lt_of_le}
use borrow.Author.Tests.{leb-true, leb-false}
use lib.Dec.{leb}
use lib.ListN.{get_or, set, length-set, length-replicate}
use lib.Seq.{get_or-set_same, get_or-set_other}
use Rattle.std.specs.Prelude.{replicate}
use Rattle.std.proofs.lemmas.List.{get_or-replicate, get_or_past}
use Rattle.lists.specs.Search.{count}
use Rattle.lists.proofs.Bools.{clash, true_false, or_left, or_right, either}
use Rattle.lists.proofs.Counts.{count_zero, count_flip, count_max}
use Rattle.paths.specs.declared.reached.Reached.{Reached}
use Rattle.paths.specs.Inside.{at, from, start_of, note_of, In, Grown, Queue, Front, Led}

abbrev noted : Reached → ℕ → Bool
noted r v = get_or r.noted v false

pub grown_same : (r : Reached) → Grown r r
grown_same r = record { longer = omega arith; same = λ i l. refl }

pub grown_more : {r r' r'' : Reached} → Grown r r' → Grown r' r'' → Grown r r''
grown_more g h = record { longer = omega (arith, g.longer, h.longer); same = λ i l. h.same i (omega (arith, l, g.longer)) ∙ g.same i l }

pub still_in : {r r' : Reached} (v : ℕ) → Grown r r' → In r v → In r' v
still_in v g w = (w.0, omega (arith, w.1, g.longer), g.same w.0 w.1 ∙ w.2)

-- one more address before which a does not stand
pub passed_more : {r r' : Reached} → Grown r r' → (head a : ℕ) → head < r.len → ((h : ℕ) → h < head → at r h ≢ a) → at r head ≢ a
    → (h : ℕ) → h < head + 1 → at r' h ≢ a
passed_more {r} {r'} g head a l before here h s = go (dec_lt h head)
  where
    go : Dec (h < head) → at r' h ≢ a
    go (yes q) = λ e. before h q (sym (g.same h (omega (arith, q, l))) ∙ e)
    go (no q) =
        let same : h ≡ head = omega (arith, s, q) in
        λ e. here (ap (at r) (sym same) ∙ sym (g.same h (omega (arith, same, l))) ∙ e)

module _ (follows : ℕ → ℕ → Bool) (n : ℕ) (inside : (p q : ℕ) → follows p q ≡ true → q < n) where
  -- as many addresses as are marked, and so at most n
  pub queue_few : {r : Reached} → Queue follows n r → r.len ≤ n
  queue_few {r} q = omega (arith, q.counted, count_max (noted r) n)

  -- the successors of p, the address at `head`, are noted one after another: those that are there already are passed over
  pub led_none : {r : Reached} {head : ℕ} → Front follows n r head → head < r.len → Led follows n r head (at r head) 0
  led_none f l =
      record {
        queue = f.queue;
        here = l;
        stands = refl;
        passed = f.passed;
        latest = λ i p q. omega (arith, f.earlier i p q);
        below = λ v q. clash (omega (arith, q));
        above = λ i p q e. clash (omega (arith, f.earlier i p q, e));
      }

  pub led_past : {r : Reached} {head p x : ℕ} (y : ℕ) → Led follows n r head p x → x ≤ y
      → ((v : ℕ) → x ≤ v → v < y → follows p v ≡ true → In r v) → Led follows n r head p y
  led_past {r} {head} {p} {x} y led l there =
      record {
        queue = led.queue;
        here = led.here;
        stands = led.stands;
        passed = led.passed;
        latest = led.latest;
        below = λ v q e. go v q e (dec_lt v x);
        above = λ i p q e. omega (arith, led.above i p q e, l);
      }
    where
      go : (v : ℕ) → v < y → follows p v ≡ true → Dec (v < x) → In r v
      go v q e (yes h) = led.below v h e
      go v q e (no h) = there v (omega (arith, h)) q e

  pub led_here : {r : Reached} {head p x : ℕ} → Led follows n r head p x → Led follows n r head (at r head) x
  led_here led = rw led.stands led

  pub led_all : {r : Reached} {head p x : ℕ} → Led follows n r head p x → ((v : ℕ) → x ≤ v → follows p v ≡ true → In r v)
      → Front follows n r (head + 1)
  led_all {r} {head} {p} {x} led there =
      record {
        queue = led.queue;
        passed = λ h v l e. passed h v l e (dec_lt h head);
        earlier = λ i p q. omega (arith, led.latest i p q);
      }
    where
      back : (v : ℕ) → In r v → (i : ℕ) × (i < r.len) × (at r i ≡ v) × (from r i ≤ head)
      back v w = (w.0, w.1, w.2, root w.0 w.1 (dec_lt 0 w.0))
        where
          root : (i : ℕ) → i < r.len → Dec (0 < i) → from r i ≤ head
          root i l (yes p) = led.latest i p l
          root i l (no p) = let z : i ≡ 0 = omega (arith, p) in rw z (omega (arith, led.queue.root))

      now : (v : ℕ) → follows p v ≡ true → Dec (v < x) → In r v
      now v e (yes l) = led.below v l e
      now v e (no l) = there v (omega (arith, l)) e

      passed : (h v : ℕ) → h < head + 1 → follows (at r h) v ≡ true → Dec (h < head)
          → (i : ℕ) × (i < r.len) × (at r i ≡ v) × (from r i ≤ h)
      passed h v l e (yes q) = led.passed h v q e
      passed h v l e (no q) =
          let same : h ≡ head = omega (arith, l, q) in rw same (back v (now v (rw (same, led.stands) at e) (dec_lt v x)))

  module _ (small : n ≤ 2048) {r : Reached} {head p a : ℕ} (led : Led follows n r head p a) (leads : a < n → follows p a ≡ true) where
    q : Queue follows n r
    q = led.queue

    -- the address is outside code, or there
    stays : (leb n a || noted r a) ≡ true → Led follows n r head p (a + 1)
    stays e = led_past (a + 1) led (omega arith) (λ v l h f. there v l h f)
      where
        there : (v : ℕ) → a ≤ v → v < a + 1 → follows p v ≡ true → In r v
        there v l h f =
            let same : v ≡ a = omega (arith, l, h) in
            let low = inside p v f in
            ⊎_elim
            (λ out. clash (omega (arith, leb-true n a out, low, same)))
            (λ marked. q.found v low (rw same marked))
            (either (leb n a) (noted r a) e)

    -- or is put at the end
    module _ (fresh : (leb n a || noted r a) ≡ false) where
      low : a < n
      low = leb-false n a (or_left _ _ fresh)

      unmarked : noted r a ≡ false
      unmarked = or_right (leb n a) _ fresh

      abbrev r' : Reached
      r' = record { queue = set r.queue r.len a; before = set r.before r.len head; noted = set r.noted a true; len = r.len + 1 }

      marked_there : noted r' a ≡ true
      marked_there = get_or-set_same r.noted a true false (omega (arith, q.sizes.noted_size, low, small))

      marked_other : (v : ℕ) → v ≢ a → noted r' v ≡ noted r v
      marked_other v ne = get_or-set_other r.noted a v true false ne

      counted : r.len + 1 ≡ count (noted r') n
      counted = omega (arith, q.counted, rw unmarked at (count_flip (noted r) (noted r') n a low (λ x ne. sym (marked_other x ne)) marked_there))

      room : r.len < n
      room = omega (arith, counted, count_max (noted r') n)

      old : (i : ℕ) → i < r.len → at r' i ≡ at r i
      old i l = get_or-set_other r.queue r.len i a 0 (λ e. omega (arith, e, l))

      old_from : (i : ℕ) → i < r.len → from r' i ≡ from r i
      old_from i l = get_or-set_other r.before r.len i head 0 (λ e. omega (arith, e, l))

      last : at r' r.len ≡ a
      last = get_or-set_same r.queue r.len a 0 (omega (arith, q.sizes.queue_size, room, small))

      last_from : from r' r.len ≡ head
      last_from = get_or-set_same r.before r.len head 0 (omega (arith, q.sizes.before_size, room, small))

      -- a place of the new queue is one of the old, or the last
      each : (P : ℕ → Type 0) → ((i : ℕ) → i < r.len → P i) → P r.len → (i : ℕ) → i < r.len + 1 → P i
      each P h z i l = go (dec_lt i r.len)
        where
          go : Dec (i < r.len) → P i
          go (yes s) = h i s
          go (no s) = subst P (omega (arith, l, s)) z

      grown : Grown r r'
      grown = record { longer = omega arith; same = old }

      queue : Queue follows n r'
      queue =
          record {
            sizes =
                record {
                  queue_size = length-set r.queue r.len a ∙ q.sizes.queue_size;
                  before_size = length-set r.before r.len head ∙ q.sizes.before_size;
                  noted_size = length-set r.noted a true ∙ q.sizes.noted_size;
                };
            some = omega arith;
            starts = old 0 q.some ∙ q.starts;
            root = old_from 0 q.some ∙ q.root;
            inside = each (λ i. at r' i < n) (λ i l. rw (old i l) (q.inside i l)) (rw last low);
            back = λ i p l. each (λ i. 0 < i → from r' i < i) (λ i l p. rw (old_from i l) (q.back i p l)) (λ p. rw last_from led.here) i l p;
            leads = λ i p l.
                each (λ i. 0 < i → follows (at r' (from r' i)) (at r' i) ≡ true)
                (λ i l p. rw (old_from i l, old i l, old (from r i) (omega (arith, q.back i p l, l))) (q.leads i p l))
                (λ p. rw (last_from, last, old head led.here, led.stands) (leads low))
                i l p;
            order = λ i j p ij l.
                each (λ j. i < j → (from r' i < from r' j) ⊎ ((from r' i ≡ from r' j) × (at r' i < at r' j)))
                (λ j l ij. let h : i < r.len = omega (arith, ij, l) in rw (old_from i h, old_from j l, old i h, old j l) (q.order i j p ij l))
                (λ h. rw (old_from i h, last_from, old i h, last) (ordered i p h (eq-or-lt_of_le (led.latest i p h))))
                j l ij;
            found = λ v l e. found v l e (ℕ_discrete v a);
            counted = counted;
          }
        where
          ordered : (i : ℕ) → 0 < i → i < r.len → (from r i ≡ head) ⊎ (from r i < head) → (from r i < head) ⊎ ((from r i ≡ head) × (at r i < a))
          ordered i p h (inl e) = inr (e, led.above i p h e)
          ordered i p h (inr l) = inl l

          found : (v : ℕ) → v < n → noted r' v ≡ true → Dec (v ≡ a) → In r' v
          found v l e (yes h) = (r.len, omega arith, last ∙ sym h)
          found v l e (no ne) = still_in v grown (q.found v l (sym (marked_other v ne) ∙ e))

      comes : Led follows n r' head p (a + 1)
      comes =
          record {
            queue = queue;
            here = omega (arith, led.here);
            stands = old head led.here ∙ led.stands;
            passed = λ h v l e.
                let w = led.passed h v l (rw (old h (omega (arith, l, led.here))) at e) in
                (w.0, omega (arith, w.1), old w.0 w.1 ∙ w.2, rw (old_from w.0 w.1) w.3);
            latest = λ i p l. each (λ i. 0 < i → from r' i ≤ head) (λ i l p. rw (old_from i l) (led.latest i p l)) (λ p. rw last_from (omega arith)) i l p;
            below = λ v l e. below v l e (ℕ_discrete v a);
            above = λ i p l.
                each (λ i. 0 < i → from r' i ≡ head → at r' i < a + 1)
                (λ i l p. rw (old_from i l, old i l) (λ e. omega (arith, led.above i p l e)))
                (λ p e. rw last (omega arith))
                i l p;
          }
        where
          below : (v : ℕ) → v < a + 1 → follows p v ≡ true → Dec (v ≡ a) → In r' v
          below v l e (yes h) = (r.len, omega arith, last ∙ sym h)
          below v l e (no ne) = still_in v grown (led.below v (omega (arith, l, ne)) e)

    pub led_note : Led follows n (note_of n head a r) head p (a + 1) × Grown r (note_of n head a r)
    led_note = go (leb n a || noted r a) refl
      where
        go : (b : Bool) → (leb n a || noted r a) ≡ b → Led follows n (cond b r (record { queue = set r.queue r.len a; before = set r.before r.len head; noted = set r.noted a true; len = r.len + 1 })) head p (a + 1)
            × Grown r (cond b r (record { queue = set r.queue r.len a; before = set r.before r.len head; noted = set r.noted a true; len = r.len + 1 }))
        go true e = (stays e, grown_same r)
        go false e = (comes e, grown e)

    -- there is room for it
    pub note_room : a < n → noted r a ≡ false → r.len < 2048
    note_room l u =
        let one : count (λ v. get_or (set r.noted a true) v false) n ≡ cond (noted r a) (count (noted r) n) (count (noted r) n + 1) =
        count_flip (noted r) (λ v. get_or (set r.noted a true) v false) n a l (λ x ne. sym (get_or-set_other r.noted a x true false ne))
        (get_or-set_same r.noted a true false (omega (arith, q.sizes.noted_size, l, small))) in
        omega (arith, q.counted, rw u at one, count_max (λ v. get_or (set r.noted a true) v false) n, small)

  pub front_start : 0 < n → n ≤ 2048 → Front follows n start_of 0
  front_start some small =
      record {
        queue =
            record {
              sizes =
                  record {
                    queue_size = length-replicate {A = ℕ} 2048 0;
                    before_size = length-replicate {A = ℕ} 2048 0;
                    noted_size = length-set (replicate 2048 false) 0 true ∙ length-replicate {A = Bool} 2048 false;
                  };
              some = omega arith;
              starts = zero_at;
              root = zero_at;
              inside = λ i l. omega (arith, zero_if i l, some);
              back = λ i p l. clash (omega (arith, p, l));
              leads = λ i p l. clash (omega (arith, p, l));
              order = λ i j p ij l. clash (omega (arith, p, ij, l));
              found = λ v l e. found v l e (ℕ_discrete v 0);
              counted = count_one;
            };
        passed = λ h v l e. clash (omega (arith, l));
        earlier = λ i p l. clash (omega (arith, p, l));
      }
    where
      zero_at : ◌≡◌ {A = ℕ} (get_or (replicate 2048 0) 0 0) 0
      zero_at = get_or-replicate 2048 0 0 0 (omega arith)

      zero_if : (i : ℕ) → i < 1 → at start_of i ≡ 0
      zero_if i l = let z : i ≡ 0 = omega (arith, l) in ap (λ (x : ℕ). get_or (replicate 2048 0) x 0) z ∙ zero_at

      first : noted start_of 0 ≡ true
      first = get_or-set_same (replicate 2048 false) 0 true false (omega (arith, length-replicate {A = Bool} 2048 false))

      none : (v : ℕ) → get_or (replicate 2048 false) v false ≡ false
      none v = go (dec_lt v 2048)
        where
          go : Dec (v < 2048) → get_or (replicate 2048 false) v false ≡ false
          go (yes l) = get_or-replicate 2048 v false false l
          go (no h) = get_or_past (replicate 2048 false) v false (omega (arith, h, length-replicate {A = Bool} 2048 false))

      found : (v : ℕ) → v < n → noted start_of v ≡ true → Dec (v ≡ 0) → In start_of v
      found v l e (yes z) = (0, omega arith, rw z zero_at)
      found v l e (no ne) = absurd (true_false e (get_or-set_other (replicate 2048 false) 0 v true false ne ∙ none v))

      count_one : 1 ≡ count (noted start_of) n
      count_one =
          omega (
            arith,
            count_zero (λ v. get_or (replicate 2048 false) v false) n (λ k l. none k),
            rw (none 0) at (count_flip (λ v. get_or (replicate 2048 false) v false) (noted start_of) n 0 some
                (λ x ne. sym (get_or-set_other (replicate 2048 false) 0 x true false ne)) first),
          )
