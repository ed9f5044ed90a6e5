-- Edges that rise are listed in one way only: two such lists with the same pairs are the same. The two numbers of an edge count as one,
-- and two increasing runs of the same numbers agree at every place.
use Prim.Native.Nat.{ℕ, zero, suc, ◌+◌, ◌*◌, ◌/◌, ◌%◌, ◌≤◌, ◌<◌}
use mathlib.Core.Path.{◌≡◌, refl, ap}
use mathlib.Core.Logic.{⊎_elim}
use mathlib.Core.List.{List}
use native.Mathlib.Omega.{arith}
use native.Mathlib.Nat.{eq-or-lt_of_le, le_of_suc-le-suc, not-suc-le-zero}
use native.Mathlib.Decide.{dec_lt}
use lib.ListN.{length, get_or}
use lib.Seq.{ext_get_or}
use Rattle.graph.specs.Claim.{edge_count, jump_of, target_of}
use Rattle.rising.specs.Rising.{Rising}
use Rattle.rising.specs.Inside.{rank_of}
use Rattle.rising.proofs.Rising.{rank_up}

-- f 0 to f (m - 1) increase
abbrev Increasing : (ℕ → ℕ) → ℕ → Type 0
Increasing f m = (i k : ℕ) → i < k → k < m → f i < f k

-- each of f 0 to f (m - 1) is one of g 0 to g (m' - 1)
abbrev Among : (ℕ → ℕ) → ℕ → (ℕ → ℕ) → ℕ → Type 0
Among f m g m' = (k : ℕ) → k < m → (k' : ℕ) × (k' < m') × (g k' ≡ f k)

no_lower : (f : ℕ → ℕ) (m i k : ℕ) → Increasing f m → i ≤ k → k < m → f i ≤ f k
no_lower f m i k inc l h =
    ⊎_elim (λ e. let q : f i ≡ f k = ap f e in omega arith) (λ p. let q = inc i k p h in omega arith) (eq-or-lt_of_le l)

-- two increasing runs of the same numbers
record Runs (f : ℕ → ℕ) (m : ℕ) (g : ℕ → ℕ) (m' : ℕ) : Type 0 where
  pub up : Increasing f m
  pub up' : Increasing g m'
  pub there : Among f m g m'
  pub back : Among g m' f m

turned : {f g : ℕ → ℕ} {m m' : ℕ} → Runs f m g m' → Runs g m' f m
turned r = record { up = r.up'; up' = r.up; there = r.back; back = r.there }

module _ {f g : ℕ → ℕ} {m m' : ℕ} (r : Runs f m g m') where
  agree_upto : (b k : ℕ) → k < b → k < m → (k < m') × (f k ≡ g k)
  agree_upto zero k l h = absurd (not-suc-le-zero l)
  agree_upto (suc b) k l h =
      ⊎_elim (λ e. here (λ i q. agree_upto b i (omega arith) (omega arith))) (λ q. agree_upto b k q h) (eq-or-lt_of_le (le_of_suc-le-suc l))
    where
      here : ((i : ℕ) → i < k → (i < m') × (f i ≡ g i)) → (k < m') × (f k ≡ g k)
      here before =
          let to = r.there k h in
          let ahead : k ≤ to.0 = not_before to.0 to.2 (dec_lt to.0 k) in
          let inside : k < m' = omega (arith, to.1) in
          let from = r.back k inside in
          let ahead' : k ≤ from.0 = not_before' inside from.0 from.2 (dec_lt from.0 k) in
          let low = no_lower g m' k to.0 r.up' ahead to.1 in
          let low' = no_lower f m k from.0 r.up ahead' from.1 in
          (inside, omega (arith, to.2, from.2))
        where
          not_before : (i : ℕ) → g i ≡ f k → Dec (i < k) → k ≤ i
          not_before i e (yes q) = absurd (let u = r.up i k q h in omega (arith, (before i q).1))
          not_before i e (no q) = omega arith

          not_before' : k < m' → (i : ℕ) → f i ≡ g k → Dec (i < k) → k ≤ i
          not_before' l' i e (yes q) = absurd (let u = r.up' i k q l' in omega (arith, (before i q).1))
          not_before' l' i e (no q) = omega arith

  agree : (k : ℕ) → k < m → (k < m') × (f k ≡ g k)
  agree k h = agree_upto (suc k) k (omega arith) h

  no_more : m ≤ m'
  no_more = go (dec_lt m' m)
    where
      go : Dec (m' < m) → m ≤ m'
      go (yes l) = absurd (omega (arith, (agree m' l).0))
      go (no l) = omega arith

-- every target has 16 bits
abbrev pub Narrow : List ℕ → Type 0
Narrow edges = (k : ℕ) → k < edge_count edges → target_of edges k < 65536

-- every edge of the first list is one of the second
abbrev pub AllIn : List ℕ → List ℕ → Type 0
AllIn edges edges' =
    (k : ℕ) → k < edge_count edges → (k' : ℕ) × (k' < edge_count edges') × (jump_of edges' k' ≡ jump_of edges k) × (target_of edges' k' ≡ target_of edges k)

ranks_up : (edges : List ℕ) → Narrow edges → Rising edges → Increasing (rank_of 65536 edges) (edge_count edges)
ranks_up edges low r i k l h = rank_up edges 65536 i k (low i (omega arith)) (r i k l h)

ranks_in : (edges edges' : List ℕ) → AllIn edges edges' → Among (rank_of 65536 edges) (edge_count edges) (rank_of 65536 edges') (edge_count edges')
ranks_in edges edges' all k l = let w = all k l in (w.0, w.1, omega (arith, w.2, w.3))

pub same_edges : (edges edges' : List ℕ) → length edges % 2 ≡ 0 → length edges' % 2 ≡ 0 → Narrow edges → Narrow edges' → Rising edges → Rising edges'
    → AllIn edges edges' → AllIn edges' edges → edges ≡ edges'
same_edges edges edges' even even' low low' r r' there back =
    ext_get_or 0 edges edges' (omega (arith, as_many)) number
  where
    runs : Runs (rank_of 65536 edges) (edge_count edges) (rank_of 65536 edges') (edge_count edges')
    runs =
        record {
          up = ranks_up edges low r;
          up' = ranks_up edges' low' r';
          there = ranks_in edges edges' there;
          back = ranks_in edges' edges back;
        }

    as_many : edge_count edges ≡ edge_count edges'
    as_many = let a = no_more runs in let b = no_more (turned runs) in omega arith

    pair : (k : ℕ) → k < edge_count edges → (jump_of edges k ≡ jump_of edges' k) × (target_of edges k ≡ target_of edges' k)
    pair k l =
        let s = agree runs k l in
        let a = low k l in
        let b = low' k s.0 in
        (omega (arith, s.1), omega (arith, s.1))

    number : (i : ℕ) → i < length edges → get_or edges i 0 ≡ get_or edges' i 0
    number i l = go (i % 2) refl
      where
        go : (b : ℕ) → i % 2 ≡ b → get_or edges i 0 ≡ get_or edges' i 0
        go zero e =
            let z : i ≡ 2 * (i / 2) = omega arith in
            rw z (pair (i / 2) (omega arith)).0
        go (suc b) e =
            let z : i ≡ 2 * (i / 2) + 1 = omega arith in
            rw z (pair (i / 2) (omega arith)).1
