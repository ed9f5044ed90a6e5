-- How long the new code is: by the kinds of the bare words and the number of destinations. An edge more is at most a destination more, and
-- the claim enters by nothing else.
use Prim.Native.Nat.{ℕ, zero, suc, ◌+◌, ◌*◌, ◌≤◌, ◌<◌}
use mathlib.Core.Path.{◌≡◌, refl, sym, ◌∙◌}
use mathlib.Core.Bool.{Bool, true, false, cond}
use mathlib.Core.Logic.{◌⊎◌, inl, inr, ⊎_elim, ◌≢◌}
use mathlib.Core.List.{List}
use native.Mathlib.Omega.{arith}
use native.Mathlib.Decide.{ℕ_discrete, dec_lt}
use Rattle.lists.specs.Search.{bit, count}
use Rattle.lists.proofs.Bools.{same_bool, true_false, refuted}
use Rattle.lists.proofs.Counts.{count_ext, count_flip}
use Rattle.isa.specs.declared.Instr.{Instr}
use Rattle.isa.specs.declared.Technique.{Technique}
use Rattle.isa.specs.Instructions.{instr_at, is_jump, is_store}
use Rattle.graph.specs.Claim.{is_destination}
use Rattle.checker.proofs.Listed.{destination_listed, listed_destination}
use Rattle.guarded.specs.Blocks.{start_of}
use Rattle.guarded.specs.Rewrite.{body_size, map_of, new_length}
use Rattle.guarded.specs.Theorems.{OneMore, jumps_in, stores_in, destinations_in}
use Rattle.guarded.proofs.Cases.{not_both}

plain_size : (i : Instr) → body_size Technique.Plain i ≡ 1 + 5 * bit (is_jump i)
plain_size i = go (is_jump i)
  where
    go : (b : Bool) → cond b 6 1 ≡ 1 + 5 * bit b
    go true = refl
    go false = refl

guarded_size : (i : Instr) → body_size Technique.MemoryGuards i ≡ 1 + 9 * bit (is_jump i) + 5 * bit (is_store i)
guarded_size i = go (is_jump i) (is_store i) (not_both i)
  where
    go : (b c : Bool) → (b ≡ true → c ≡ true → ⊥) → cond b 10 (cond c 6 1) ≡ 1 + 9 * bit b + 5 * bit c
    go true true e = absurd (e refl refl)
    go true false e = refl
    go false true e = refl
    go false false e = refl

module _ (bare edges : List ℕ) where
  pub plain_map : (m : ℕ) → map_of Technique.Plain bare edges m ≡ m + 5 * jumps_in bare m + destinations_in edges m
  unfolding start_of count
  plain_map zero = refl
  plain_map (suc m) = let e = plain_map m in let s = plain_size (instr_at bare m) in omega arith

  pub guarded_map : (m : ℕ)
      → map_of Technique.MemoryGuards bare edges m ≡ m + 9 * jumps_in bare m + 5 * stores_in bare m + destinations_in edges m
  unfolding start_of count
  guarded_map zero = refl
  guarded_map (suc m) = let e = guarded_map m in let s = guarded_size (instr_at bare m) in omega arith

by_destinations : (t : Technique) (bare edges : List ℕ) (m : ℕ)
    → map_of t bare edges m ≡ start_of (λ a. body_size t (instr_at bare a)) m + destinations_in edges m
unfolding start_of count
by_destinations t bare edges zero = refl
by_destinations t bare edges (suc m) = let e = by_destinations t bare edges m in omega arith

-- tests that agree but at x, where only g may hold
one_apart : (f g : ℕ → Bool) (x n : ℕ) → ((k : ℕ) → k ≢ x → f k ≡ g k) → (f x ≡ true → g x ≡ true)
    → (count g n ≡ count f n) ⊎ (count g n ≡ count f n + 1)
one_apart f g x n same kept = go (dec_lt x n) (g x) refl
  where
    flipped : (b : Bool) → count g n ≡ cond b (count f n) (count f n + 1) → (count g n ≡ count f n) ⊎ (count g n ≡ count f n + 1)
    flipped true e = inl e
    flipped false e = inr e

    alike : ((k : ℕ) → k < n → f k ≡ g k) → (count g n ≡ count f n) ⊎ (count g n ≡ count f n + 1)
    alike h = inl (sym (count_ext f g n h))

    nowhere : g x ≡ false → (k : ℕ) → Dec (k ≡ x) → f k ≡ g k
    nowhere e k (yes q) = rw q (refuted (f x) (λ p. true_false (kept p) e) ∙ sym e)
    nowhere e k (no q) = same k q

    go : Dec (x < n) → (b : Bool) → g x ≡ b → (count g n ≡ count f n) ⊎ (count g n ≡ count f n + 1)
    go (yes l) true e = flipped (f x) (count_flip f g n x l same e)
    go (yes l) false e = alike (λ k _. nowhere e k (ℕ_discrete k x))
    go (no l) b e = alike (λ k h. same k (λ q. omega arith))

module _ (t : Technique) (bare : List ℕ) (n : ℕ) (edges more : List ℕ) (o : OneMore edges more) where
  kept : (a : ℕ) → is_destination edges a ≡ true → is_destination more a ≡ true
  kept a e = let l = destination_listed edges a e in listed_destination more l.0 a (o.kept l.0 a l.1)

  same : (a : ℕ) → a ≢ o.target → is_destination edges a ≡ is_destination more a
  same a h =
      same_bool _ _ (kept a)
      (λ e.
      let l = destination_listed more a e in
      ⊎_elim (λ q. listed_destination edges l.0 a q) (λ q. absurd (h q.1)) (o.added l.0 a l.1))

  pub one_edge : (new_length t bare n edges ≤ new_length t bare n more) × (new_length t bare n more ≤ new_length t bare n edges + 1)
  one_edge =
      let a = by_destinations t bare edges n in
      let b = by_destinations t bare more n in
      ⊎_elim
      (λ e. (omega arith, omega arith))
      (λ e. (omega arith, omega arith))
      (one_apart (is_destination edges) (is_destination more) o.target n same (kept o.target))
