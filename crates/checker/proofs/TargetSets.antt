-- Rule 10 by the sets as they are met: a set is new, or one that was met, or it breaks the rule; and a jump breaks the rule exactly
-- where a target of it is contested.
use Prim.Native.Nat.{ℕ, ◌+◌, ◌-◌, ◌<◌, ◌≤◌}
use mathlib.Core.Path.{◌≡◌, refl, sym, ap, subst, ◌∙◌}
use mathlib.Core.Logic.{◌⊎◌, ◌≢◌, ⊎_elim, inl, inr}
use mathlib.Core.Bool.{Bool, true, false, cond, ◌&&◌}
use mathlib.Core.List.{List}
use native.Mathlib.Omega.{arith}
use native.Mathlib.Decide.{ℕ_discrete}
use lib.Dec.{eqb}
use borrow.Author.Tests.{eq-eqb, eqb-true}
use lib.ListN.{length, get_or, set, length-set}
use lib.Seq.{get_or-set_same, get_or-set_other}
use Rattle.std.specs.Prelude.{Option, None, Some}
use Rattle.std.specs.Option.{MatchOption, IsSomeAnd}
use Rattle.lists.specs.Search.{count, first}
use Rattle.lists.specs.Tables.{Table}
use Rattle.lists.proofs.Bools.{and_left, and_right, both_true, true_false, refuted, upheld}
use Rattle.lists.proofs.Search.{Clean, lowest_is, lowest_ext}
use Rattle.lists.proofs.Counts.{count_ext, count_eq}
use Rattle.graph.specs.Claim.{edge_count, jump_of, target_of, is_edge, is_destination, id_of}
use Rattle.graph.specs.Rules.{overlaps}
use Rattle.graph.specs.Passes.{Within}
use Rattle.graph.proofs.Edges.{edge_at, edge_of, edge_below, id_hit}
use Rattle.graph.proofs.Apart.{apart_one, one_apart}
use Rattle.rising.specs.Rising.{Rising}
use Rattle.checker.specs.Passes.{EdgesOf, Met, Put, Fits, Told, OwnedBy, Judged, SetPut, Overlapped}
use Rattle.lists.proofs.First.{first_at, first_none, first_clean}
use Rattle.checker.proofs.Listed.{edge_listed, listed_destination}
use Rattle.checker.proofs.Runs.{lower_before, own_edge}

-- what a test says, its answer being known
pub told : (A B : Type 0) {r b : Bool} → r ≡ b → Told r A B → Told b A B
told A B e h = subst (λ (x : Bool). Told x A B) e h

module _ (edges : List ℕ) (n : ℕ) (w : Within edges n) where
  abbrev Same : ℕ → ℕ → Type 0
  Same i j = (t : ℕ) → t < n → is_edge edges i t ≡ is_edge edges j t

  low : (j t : ℕ) → is_edge edges j t ≡ true → t < n
  low j t h = (edge_below edges n w j t h).1

  same_id : (i j : ℕ) → Same i j → id_of edges n i ≡ id_of edges n j
  unfolding id_of
  same_id i j s = lowest_ext (is_edge edges i) (is_edge edges j) n s

  -- a jump that keeps the rule has the set of each that it meets
  kept_same : (j i t : ℕ) → overlaps edges n j ≡ false → is_edge edges j t ≡ true → is_edge edges i t ≡ true → Same j i
  kept_same j i t o hj hi = apart_one edges n j i (edge_below edges n w i t hi).0 o t (low j t hj) hj hi

  -- what meets a jump that breaks the rule breaks it
  spread : (i j t : ℕ) → is_edge edges i t ≡ true → is_edge edges j t ≡ true → overlaps edges n j ≡ true → overlaps edges n i ≡ true
  spread i j t hi hj o = upheld _ λ k.
      let ij = kept_same i j t k hi hj in
      true_false o (one_apart edges n j (λ l h a b ja la x y. sym (ij x y) ∙ kept_same i l a k (ij a b ∙ ja) la x y))

  -- the set of the jump whose edges are those from k to end, where those of the jumps below it were met
  module _ (own size : List ℕ) (k end : ℕ) (x : EdgesOf edges n k end) (put : Put edges n (jump_of edges k) own size) where
    abbrev j : ℕ
    j = jump_of edges k

    abbrev id : ℕ
    id = target_of edges k

    id_in : is_edge edges j id ≡ true
    id_in = own_edge edges n k end x k (omega arith) x.some_edge

    id_low : id < n
    id_low = low j id id_in

    not_nobodys : (i t : ℕ) → i < j → is_edge edges i t ≡ true → get_or own t 0 ≢ n
    not_nobodys i t l h q =
        ⊎_elim (λ p. omega (arith, p, q, (id_hit edges n w i t h).1)) (λ p. omega (arith, p, q)) (put.met.held i t l h)

    -- ---- a set that keeps the rule fits

    module _ (kept : overlaps edges n j ≡ false) where
      own_id : (t : ℕ) → is_edge edges j t ≡ true → get_or own t 0 ≢ n → get_or own t 0 ≡ id
      own_id t h ne =
          let v = put.met.taken t (low j t h) ne in
          ⊎_elim
          (λ p. p ∙ sym (same_id j v.0 (kept_same j v.0 t kept h v.2)) ∙ sym x.lowest_first)
          (λ p. let c = put.met.contested t (low j t h) p in absurd (true_false (spread j c.0 t h c.1 c.2) kept))
          (put.met.held v.0 t v.1 v.2)

      all_owned : (t u : ℕ) → is_edge edges j t ≡ true → is_edge edges j u ≡ true → get_or own t 0 ≢ n → get_or own u 0 ≢ n
      all_owned t u ht hu ne =
          let v = put.met.taken t (low j t ht) ne in
          not_nobodys v.0 u v.1 (sym (kept_same j v.0 t kept ht v.2 u (low j u hu)) ∙ hu)

      kept_alike : (t : ℕ) → is_edge edges j t ≡ true → get_or own t 0 ≡ get_or own id 0
      kept_alike t h = go (ℕ_discrete (get_or own t 0) n) (ℕ_discrete (get_or own id 0) n)
        where
          go : Dec (get_or own t 0 ≡ n) → Dec (get_or own id 0 ≡ n) → get_or own t 0 ≡ get_or own id 0
          go (yes p) (yes q) = p ∙ sym q
          go (yes p) (no q) = absurd (all_owned id t id_in h q p)
          go (no p) (yes q) = absurd (all_owned t id h id_in p q)
          go (no p) (no q) = own_id t h p ∙ sym (own_id id id_in q)

      kept_met : get_or own id 0 ≢ n → (get_or own id 0 ≡ id) × (get_or size id 0 ≡ count (is_edge edges j) n)
      kept_met ne =
          let mine = own_id id id_in ne in
          let v = put.met.taken id id_low ne in
          let same = kept_same j v.0 id kept id_in v.2 in
          let ids : id ≡ id_of edges n v.0 = x.lowest_first ∙ same_id j v.0 same in (
            mine,
            ap (λ (s : ℕ). get_or size s 0) ids
                ∙ put.sizes v.0 v.1 (omega (arith, ids, id_low)) (subst (λ (s : ℕ). get_or own s 0 ≡ s) ids mine)
                ∙ sym (count_ext (is_edge edges j) (is_edge edges v.0) n same),
          )

    -- so what the answers to the three questions say
    pub unlike_broken : (o : ℕ) → o ≡ get_or own id 0 → OwnedBy false edges j o own → Judged false edges n k own size
    unlike_broken o e (t, h, ne) = upheld _ λ kept. ne (kept_alike kept t h ∙ sym e)

    pub new_fits : (o : ℕ) → o ≡ get_or own id 0 → OwnedBy true edges j o own → o ≡ n → Judged true edges n k own size
    new_fits o e alike z = record { alike = λ t h. alike t h ∙ e; new_or_met = inl (sym e ∙ z) }

    pub met_judged : (r : Bool) (o d : ℕ) → o ≡ get_or own id 0 → OwnedBy true edges j o own → o ≢ n → d ≡ end - k
        → r ≡ (eqb o id && eqb (get_or size id 0) d) → Judged r edges n k own size
    met_judged true o d e alike ne ed er =
        record {
          alike = λ t h. alike t h ∙ e;
          new_or_met = inr (
            sym e ∙ eqb-true o id (and_left _ _ (sym er)),
            eqb-true _ _ (and_right (eqb o id) _ (sym er)) ∙ ed ∙ x.many,
          );
        }
    met_judged false o d e alike ne ed er = upheld _ λ kept.
        let p = kept_met kept (λ z. ne (e ∙ z)) in
        true_false (both_true (eq-eqb o id (e ∙ p.0)) (eq-eqb _ d (p.1 ∙ sym x.many ∙ sym ed))) (sym er)

    -- ---- the set put in, with the owner o

    module _ (own' : List ℕ) (o : ℕ) (h : Table own' n (λ t. cond (is_edge edges j t) o (get_or own t 0))) where
      -- an address in the set, or out of it
      inside : (t : ℕ) → is_edge edges j t ≡ true → get_or own' t 0 ≡ o
      inside t e = h.each t (low j t e) ∙ rw e

      outside : (t : ℕ) → t < n → is_edge edges j t ≡ false → get_or own' t 0 ≡ get_or own t 0
      outside t l e = h.each t l ∙ rw e

      -- a jump with an address out of it came before
      before : (i t : ℕ) → i < j + 1 → is_edge edges i t ≡ true → is_edge edges j t ≡ false → i < j
      before i t l hi hj = let ne : i ≢ j = λ e. true_false hi (ap (λ (y : ℕ). is_edge edges y t) e ∙ hj) in omega (arith, ne)

      taken' : (t : ℕ) → t < n → get_or own' t 0 ≢ n → (i : ℕ) × (i < j + 1) × (is_edge edges i t ≡ true)
      taken' t l ne = go (is_edge edges j t) refl
        where
          go : (b : Bool) → is_edge edges j t ≡ b → (i : ℕ) × (i < j + 1) × (is_edge edges i t ≡ true)
          go true e = (j, omega arith, e)
          go false e = let v = put.met.taken t l (λ q. ne (outside t l e ∙ q)) in (v.0, omega (arith, v.1), v.2)

      -- where it breaks the rule, its addresses are contested and nothing else changes
      module _ (broken : overlaps edges n j ≡ true) (mark : o ≡ n + 1) where
        old : (i t : ℕ) → i < j + 1 → is_edge edges i t ≡ true → get_or own' t 0 ≢ n + 1 → (i < j) × (get_or own' t 0 ≡ get_or own t 0)
        old i t l e q =
            let out : is_edge edges j t ≡ false = refuted _ λ z. q (inside t z ∙ mark) in
            (before i t l e out, outside t (low i t e) out)

        held : (i t : ℕ) → i < j + 1 → is_edge edges i t ≡ true → (b : Bool) → is_edge edges j t ≡ b
            → (get_or own' t 0 ≡ id_of edges n i) ⊎ (get_or own' t 0 ≡ n + 1)
        held i t l e true z = inr (inside t z ∙ mark)
        held i t l e false z = rw (outside t (low i t e) z) (put.met.held i t (before i t l e z) e)

        contested : (t : ℕ) → t < n → get_or own' t 0 ≡ n + 1 → (b : Bool) → is_edge edges j t ≡ b
            → (i : ℕ) × (is_edge edges i t ≡ true) × (overlaps edges n i ≡ true)
        contested t l e true z = (j, z, broken)
        contested t l e false z = put.met.contested t l (sym (outside t l z) ∙ e)

        sizes : (i : ℕ) → i < j + 1 → id_of edges n i < n → get_or own' (id_of edges n i) 0 ≡ id_of edges n i
            → get_or size (id_of edges n i) 0 ≡ count (is_edge edges i) n
        unfolding id_of
        sizes i l b e =
            let a = old i (id_of edges n i) l ((lowest_is (is_edge edges i) n).found b) (λ z. omega (arith, e, b, z)) in
            put.sizes i a.0 b (sym a.1 ∙ e)

        pub put_broken : SetPut false edges n k own own' size
        put_broken =
            record {
              put = record {
                own_length = h.size;
                size_length = put.size_length;
                met = record {
                  taken = taken';
                  held = λ i t l e. held i t l e (is_edge edges j t) refl;
                  one = λ y z t ly lz hy hz q.
                      let a = old y t ly hy q in
                      put.met.one y z t a.0 (old z t lz hz q).0 hy hz (λ e. q (a.1 ∙ e));
                  contested = λ t l e. contested t l e (is_edge edges j t) refl;
                };
                sizes = sizes;
              };
              calm = λ e. absurd (true_false e refl);
            }

      -- where it fits, its ID owns it
      module _ (f : Fits edges n k own size) (mine : o ≡ id) (size' : List ℕ) (len : length size' ≡ 2048)
          (put-size : get_or size' id 0 ≡ count (is_edge edges j) n) (other-size : (s : ℕ) → s ≢ id → get_or size' s 0 ≡ get_or size s 0) where
        -- a jump before j with an address that the ID owns has the ID
        has_id : (i t : ℕ) → i < j → is_edge edges i t ≡ true → get_or own t 0 ≡ id → is_edge edges i id ≡ true
        has_id i t l e z =
            let ids : id_of edges n i ≡ id =
            ⊎_elim (λ p. sym p ∙ z) (λ p. absurd (omega (arith, p, z, id_low))) (put.met.held i t l e) in
            subst (λ (y : ℕ). is_edge edges i y ≡ true) ids (id_hit edges n w i t e).0

        -- and where the ID owns itself and j's set is as large as its, j's set
        met_same : (i : ℕ) → i < j → is_edge edges i id ≡ true → get_or own id 0 ≡ id → get_or size id 0 ≡ count (is_edge edges j) n → Same i j
        met_same i l e oe se =
            let calm : get_or own id 0 ≢ n + 1 = λ z. omega (arith, z, oe, id_low) in
            let ids : id_of edges n i ≡ id = ⊎_elim (λ p. sym p ∙ oe) (λ p. absurd (calm p)) (put.met.held i id l e) in
            let part : (u : ℕ) → u < n → is_edge edges j u ≡ true → is_edge edges i u ≡ true =
            λ u q hu.
            let ou : get_or own u 0 ≡ id = f.alike u hu ∙ oe in
            let v = put.met.taken u q (λ z. omega (arith, z, ou, id_low)) in
            sym (put.met.one v.0 i id v.1 l (has_id v.0 u v.1 v.2 ou) e calm u q) ∙ v.2 in
            let many : count (is_edge edges j) n ≡ count (is_edge edges i) n =
            sym se ∙ ap (λ (s : ℕ). get_or size s 0) (sym ids)
            ∙ put.sizes i l (omega (arith, ids, id_low)) (subst (λ (s : ℕ). get_or own s 0 ≡ s) (sym ids) oe) in
            λ u q. sym (count_eq (is_edge edges j) (is_edge edges i) n part many u q)

        owned_same : (i t : ℕ) → i < j → is_edge edges i t ≡ true → get_or own' t 0 ≡ id → Same i j
        owned_same i t l e z = go (is_edge edges j t) refl f.new_or_met
          where
            go : (b : Bool) → is_edge edges j t ≡ b
                → (get_or own id 0 ≡ n) ⊎ ((get_or own id 0 ≡ id) × (get_or size id 0 ≡ count (is_edge edges j) n)) → Same i j
            go true hb (inl p) = absurd (not_nobodys i t l e (f.alike t hb ∙ p))
            go true hb (inr p) = met_same i l (has_id i t l e (f.alike t hb ∙ p.0)) p.0 p.1
            go false hb (inl p) = absurd (not_nobodys i id l (has_id i t l e (sym (outside t (low i t e) hb) ∙ z)) p)
            go false hb (inr p) = met_same i l (has_id i t l e (sym (outside t (low i t e) hb) ∙ z)) p.0 p.1

        like_j : (i t : ℕ) → i < j + 1 → is_edge edges i t ≡ true → get_or own' t 0 ≡ id → Same i j
        like_j i t l e z = go (ℕ_discrete i j)
          where
            go : Dec (i ≡ j) → Same i j
            go (yes q) = λ u p. ap (λ (y : ℕ). is_edge edges y u) q
            go (no q) = owned_same i t (omega (arith, q)) e z

        unlike_j : (i t : ℕ) → i < j + 1 → is_edge edges i t ≡ true → get_or own' t 0 ≢ id → (i < j) × (get_or own' t 0 ≡ get_or own t 0)
        unlike_j i t l e ne =
            let out : is_edge edges j t ≡ false = refuted _ λ z. ne (inside t z ∙ mine) in
            (before i t l e out, outside t (low i t e) out)

        fits_calm : (t : ℕ) → t < n → get_or own' t 0 ≡ n + 1 → get_or own t 0 ≡ n + 1
        fits_calm t l e =
            let out : is_edge edges j t ≡ false = refuted _ λ z. omega (arith, e, inside t z, mine, id_low) in
            sym (outside t l out) ∙ e

        fits_held : (i t : ℕ) → i < j + 1 → is_edge edges i t ≡ true → Dec (get_or own' t 0 ≡ id)
            → (get_or own' t 0 ≡ id_of edges n i) ⊎ (get_or own' t 0 ≡ n + 1)
        fits_held i t l e (yes z) = inl (z ∙ x.lowest_first ∙ sym (same_id i j (like_j i t l e z)))
        fits_held i t l e (no ne) = let a = unlike_j i t l e ne in rw a.1 (put.met.held i t a.0 e)

        fits_one : (y z t : ℕ) → y < j + 1 → z < j + 1 → is_edge edges y t ≡ true → is_edge edges z t ≡ true → get_or own' t 0 ≢ n + 1
            → Dec (get_or own' t 0 ≡ id) → Same y z
        fits_one y z t ly lz hy hz q (yes p) = λ u r. like_j y t ly hy p u r ∙ sym (like_j z t lz hz p u r)
        fits_one y z t ly lz hy hz q (no p) =
            let a = unlike_j y t ly hy p in
            put.met.one y z t a.0 (unlike_j z t lz hz p).0 hy hz (λ e. q (a.1 ∙ e))

        fits_sizes : (i : ℕ) → i < j + 1 → id_of edges n i < n → get_or own' (id_of edges n i) 0 ≡ id_of edges n i
            → get_or size' (id_of edges n i) 0 ≡ count (is_edge edges i) n
        unfolding id_of
        fits_sizes i l b e = go (ℕ_discrete (id_of edges n i) id)
          where
            its : is_edge edges i (id_of edges n i) ≡ true
            its = (lowest_is (is_edge edges i) n).found b

            go : Dec (id_of edges n i ≡ id) → get_or size' (id_of edges n i) 0 ≡ count (is_edge edges i) n
            go (yes q) =
                ap (λ (s : ℕ). get_or size' s 0) q ∙ put-size
                ∙ sym (count_ext (is_edge edges i) (is_edge edges j) n (like_j i (id_of edges n i) l its (e ∙ q)))
            go (no q) =
                let a = unlike_j i (id_of edges n i) l its (λ z. q (sym e ∙ z)) in
                other-size (id_of edges n i) q ∙ put.sizes i a.0 b (sym a.1 ∙ e)

        put_fits : SetPut true edges n k own own' size'
        put_fits =
            record {
              put = record {
                own_length = h.size;
                size_length = len;
                met = record {
                  taken = taken';
                  held = λ i t l e. fits_held i t l e (ℕ_discrete (get_or own' t 0) id);
                  one = λ y z t ly lz hy hz q. fits_one y z t ly lz hy hz q (ℕ_discrete (get_or own' t 0) id);
                  contested = λ t l e. put.met.contested t l (fits_calm t l e);
                };
                sizes = fits_sizes;
              };
              calm = λ _. fits_calm;
            }

    -- a new set; s is its ID
    pub put_new : (own' : List ℕ) (s d : ℕ) → Judged true edges n k own size → s ≡ id → s < n → d ≡ end - k
        → Table own' n (λ t. cond (is_edge edges j t) s (get_or own t 0)) → SetPut true edges n k own own' (set size s d)
    put_new own' s d f es l ed h =
        put_fits own' s h f es (set size s d) (length-set size s d ∙ put.size_length)
        (ap (λ (i : ℕ). get_or (set size s d) i 0) (sym es) ∙ get_or-set_same size s d 0 (omega (arith, put.size_length, w.small)) ∙ ed ∙ x.many)
        (λ i ne. get_or-set_other size s i d 0 (λ z. ne (z ∙ es)))

    -- one that was met is there already: its ID owns itself
    pub put_met : (s : ℕ) → Judged true edges n k own size → s ≡ id → get_or own s 0 ≡ s → SetPut true edges n k own own size
    put_met s f es os = go f.new_or_met
      where
        at_id : get_or own id 0 ≡ id
        at_id = subst (λ (y : ℕ). get_or own y 0 ≡ y) es os

        there : (t : ℕ) → (b : Bool) → is_edge edges j t ≡ b → get_or own t 0 ≡ cond b id (get_or own t 0)
        there t true e = f.alike t e ∙ at_id
        there t false e = refl

        go : (get_or own id 0 ≡ n) ⊎ ((get_or own id 0 ≡ id) × (get_or size id 0 ≡ count (is_edge edges j) n)) → SetPut true edges n k own own size
        go (inl p) = absurd (omega (arith, p, at_id, id_low))
        go (inr p) =
            put_fits own id (record { size = put.own_length; each = λ t l. there t (is_edge edges j t) refl }) f refl size put.size_length
            p.1 (λ i ne. refl)

  -- ---- from the first set to the last

  -- no jump with an edge from a to b
  pub put_skip : (own size : List ℕ) (a b : ℕ) → a ≤ b → ((j t : ℕ) → j < b → is_edge edges j t ≡ true → j < a) → Put edges n a own size
      → Put edges n b own size
  unfolding id_of
  put_skip own size a b l none put =
      record {
        own_length = put.own_length;
        size_length = put.size_length;
        met = record {
          taken = λ t h ne. let v = put.met.taken t h ne in (v.0, omega (arith, v.1), v.2);
          held = λ j t h e. put.met.held j t (none j t h e) e;
          one = λ i j t hi hj ei ej. put.met.one i j t (none i t hi ei) (none j t hj ej) ei ej;
          contested = put.met.contested;
        };
        sizes = λ j h q. put.sizes j (none j (id_of edges n j) h ((lowest_is (is_edge edges j) n).found q)) q;
      }

  -- ---- all sets met

  module _ (own : List ℕ) (met : Met edges n n own) where
    contested_broken : (j t : ℕ) → is_edge edges j t ≡ true → get_or own t 0 ≡ n + 1 → overlaps edges n j ≡ true
    contested_broken j t h e = let c = met.contested t (low j t h) e in spread j c.0 t h c.1 c.2

    uncontested_kept : (j : ℕ) → ((t : ℕ) → is_edge edges j t ≡ true → get_or own t 0 ≢ n + 1) → overlaps edges n j ≡ false
    uncontested_kept j none =
        one_apart edges n j (λ i l a b ja ia. met.one j i a (edge_below edges n w j a ja).0 l ja ia (none a ja))

    -- the first edge with a contested target starts at the lowest jump that breaks the rule
    first_broken_lem : Rising edges → (k : ℕ) → k < edge_count edges → ((i : ℕ) → i < k → get_or own (target_of edges i) 0 ≢ n + 1)
        → get_or own (target_of edges k) 0 ≡ n + 1 → Some (jump_of edges k) ≡ first (overlaps edges n) n
    first_broken_lem r k l none e =
        first_at (overlaps edges n) n (jump_of edges k) (w.jumps k l)
        (λ j q. uncontested_kept j λ t h z.
        let v = edge_of edges n j t h in
        none v.0 (lower_before edges r v.0 k v.1 (omega (arith, v.2, q))) (ap (λ (u : ℕ). get_or own u 0) v.3 ∙ z))
        (contested_broken (jump_of edges k) (target_of edges k) (edge_at edges n k l) e)

    pub none_broken : ((i : ℕ) → i < edge_count edges → get_or own (target_of edges i) 0 ≢ n + 1) → None ≡ first (overlaps edges n) n
    none_broken none =
        first_none (overlaps edges n) n
        (λ j q. uncontested_kept j λ t h z.
        let v = edge_of edges n j t h in none v.0 v.1 (ap (λ (u : ℕ). get_or own u 0) v.3 ∙ z))

    -- what a search for that edge tells, where At is what is known of the jump it is taken to
    pub contested_told : {At : ℕ → ℕ → Type 0} → Rising edges → (m : ℕ) → m ≡ edge_count edges → (o r : Option ℕ)
        → MatchOption o ((i : ℕ) → 0 ≤ i → i < m → get_or own (target_of edges i) 0 ≢ n + 1)
        (λ k. (0 ≤ k) × (k < m) × (get_or own (target_of edges k) 0 ≡ n + 1)
        × ((i : ℕ) → 0 ≤ i → i < k → get_or own (target_of edges i) 0 ≢ n + 1))
        → MatchOption o (r ≡ None) (λ k. IsSomeAnd r (At k)) → ((k j : ℕ) → At k j → j ≡ jump_of edges k)
        → r ≡ first (overlaps edges n) n
    contested_told s m l None r h e at = e ∙ none_broken (λ i q. h i (omega arith) (omega arith))
    contested_told s m l (Some k) None h e at = absurd e
    contested_told s m l (Some k) (Some j) h e at =
        ap Some (at k j e) ∙ first_broken_lem s k (omega (arith, h.1)) (λ i q. h.3 i (omega arith) q) h.2

    -- where no jump breaks it, each destination is owned by its ID, and nobody owns another address
    owned : Clean (overlaps edges n) n → (k : ℕ) → k < edge_count edges → get_or own (target_of edges k) 0 ≡ id_of edges n (jump_of edges k)
    owned c k l =
        let h = edge_at edges n k l in
        let b = w.jumps k l in
        ⊎_elim
        (λ p. p)
        (λ p. absurd (true_false (contested_broken (jump_of edges k) (target_of edges k) h p) (c (jump_of edges k) b)))
        (met.held (jump_of edges k) (target_of edges k) b h)

    free : (t : ℕ) → t < n → is_destination edges t ≡ false → get_or own t 0 ≡ n
    free t l d = go (ℕ_discrete (get_or own t 0) n)
      where
        go : Dec (get_or own t 0 ≡ n) → get_or own t 0 ≡ n
        go (yes e) = e
        go (no ne) =
            let v = met.taken t l ne in
            absurd (true_false (listed_destination edges v.0 t (edge_listed edges v.0 t v.2)) d)

    pub overlapped : (r : Option ℕ) → r ≡ first (overlaps edges n) n → Overlapped r edges n own
    overlapped r e =
        record { is = e; owners = λ l. record { within = w; held = owned (first_clean (overlaps edges n) n (sym l ∙ e)); free = free } }
