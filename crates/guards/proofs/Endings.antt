-- Rule 15: where rules 13 and 14 are kept, a guard sequence ends exactly where its jmp or st stands.
use Prim.Native.Nat.{ℕ, suc, ◌+◌, ◌-◌, ◌<◌, ◌≤◌}
use mathlib.Core.Path.{◌≡◌, refl, sym, ap, subst, ◌∙◌}
use mathlib.Core.Bool.{Bool, true, ◌&&◌}
use mathlib.Core.List.{List, [], ◌∷◌}
use Rattle.std.specs.Prelude.{Option, None, Some}
use Rattle.std.specs.List.{list_any, range_with_len}
use Rattle.std.proofs.lemmas.List.Folds.{Any-from_list_any, list_any_at}
use Rattle.std.proofs.lemmas.List.FromFn.{length-range_with_len, get_or-range_with_len}
use native.Mathlib.Omega.{arith}
use borrow.Author.Tests.{leb-true, ltb-true, le-leb, lt-ltb, not-false}
use lib.Dec.{ltb, leb}
use lib.ListN.{length, get_or}
use Rattle.lists.specs.Search.{any}
use Rattle.lists.proofs.Bools.{and_left, and_right, and_rest, same_bool}
use Rattle.lists.proofs.Search.{Clean, any_ext, any_hit, any_witness}
use Rattle.isa.specs.declared.Instr.{Instr}
use Rattle.isa.specs.declared.Technique.{Technique}
use Rattle.isa.specs.Instructions.{instr_at, is_jump, is_store, branch_target}
use Rattle.guards.specs.declared.Slot.{Slot}
use Rattle.guards.specs.Sequences.{just, any_register_in, fits, stands_at, ends_at}
use Rattle.guards.specs.Rules.{store_unguarded, jump_unguarded, inside_jump_guard, inside_store_guard, inside_guard, target_wrong_if_any}
use Rattle.guards.specs.Patterns.{jump_length, ending_near, guard_near, target_bad_if_any, branch_bad, GuardsKept}

abbrev last_of : Slot → List Slot → Slot
last_of s [] = s
last_of s (r ∷ rest) = last_of r rest

stands_last : (memory : List ℕ) (b : ℕ) (s : Slot) (rest : List Slot) → stands_at memory b (s ∷ rest) ≡ true
    → fits (last_of s rest) (instr_at memory (b + length rest)) ≡ true
unfolding stands_at
stands_last memory b s [] h =
    subst (λ (x : ℕ). fits s (instr_at memory x) ≡ true) (omega arith) (and_left (fits s (instr_at memory b)) true h)
stands_last memory b s (r ∷ rest) h =
    subst (λ (x : ℕ). fits (last_of r rest) (instr_at memory x) ≡ true) (omega arith)
    (stands_last memory (suc b) r rest (and_right (fits s (instr_at memory b)) (stands_at memory (suc b) (r ∷ rest)) h))

ends_last : (memory : List ℕ) (s : Slot) (rest : List Slot) (a : ℕ) → ends_at memory (s ∷ rest) a ≡ true
    → fits (last_of s rest) (instr_at memory a) ≡ true
unfolding ends_at
ends_last memory s rest a h =
    let l : length (s ∷ rest) ≤ a + 1 = leb-true _ _ (and_left (leb (length (s ∷ rest)) (a + 1)) (stands_at memory (a + 1 - length (s ∷ rest)) (s ∷ rest)) h) in
    subst (λ (x : ℕ). fits (last_of s rest) (instr_at memory x) ≡ true) (omega arith)
    (stands_last memory (a + 1 - length (s ∷ rest)) s rest
    (and_right (leb (length (s ∷ rest)) (a + 1)) (stands_at memory (a + 1 - length (s ∷ rest)) (s ∷ rest)) h))

-- a sequence whose last slot takes only one kind, and which every word of that kind has, ends where that kind stands
ends_kind : (kind : Instr → Bool) (memory : List ℕ) (s : Slot) (rest : List Slot) (a : ℕ)
    → ((i : Instr) → fits (last_of s rest) i ≡ true → kind i ≡ true)
    → (kind (instr_at memory a) ≡ true → ends_at memory (s ∷ rest) a ≡ true) → ends_at memory (s ∷ rest) a ≡ kind (instr_at memory a)
ends_kind kind memory s rest a last guarded =
    same_bool _ _ (λ h. last (instr_at memory a) (ends_last memory s rest a h)) guarded

jump_last : (i : Instr) → fits (just (Instr.Jmp 0)) i ≡ true → is_jump i ≡ true
unfolding fits
jump_last i h = and_left (is_jump i) _ h

store_last : (i : Instr) → fits (any_register_in (Instr.St 0 0 0)) i ≡ true → is_store i ≡ true
unfolding fits
store_last i h = and_left (is_store i) _ h

near : (x : Bool) {a b : Bool} → a ≡ b → (a && x) ≡ (b && x)
near x e = ap (λ (z : Bool). z && x) e

inside_jump : (t : Technique) (memory : List ℕ) (n : ℕ) (edges : List ℕ) (w : ℕ) → Clean (jump_unguarded t memory n edges) n
    → inside_jump_guard t memory n edges w ≡ ending_near is_jump memory n (jump_length t) w
unfolding inside_jump_guard
inside_jump Technique.Plain memory n edges w c =
    any_ext _ _ n
    (λ a l.
    near (leb w a && ltb (a + 1) (w + 6))
    (ends_kind is_jump memory _ _ a jump_last (λ h. not-false _ (and_rest (is_jump (instr_at memory a)) _ h (c a l)))))
inside_jump Technique.MemoryGuards memory n edges w c =
    any_ext _ _ n
    (λ a l.
    near (leb w a && ltb (a + 1) (w + 10))
    (ends_kind is_jump memory _ _ a jump_last (λ h. not-false _ (and_rest (is_jump (instr_at memory a)) _ h (c a l)))))

inside_store : (memory : List ℕ) (n w : ℕ) → Clean (store_unguarded Technique.MemoryGuards memory n) n
    → inside_store_guard memory n w ≡ ending_near is_store memory n 6 w
unfolding inside_store_guard
inside_store memory n w c =
    any_ext _ _ n
    (λ a l.
    near (leb w a && ltb (a + 1) (w + 6))
    (ends_kind is_store memory _ _ a store_last
    (λ h.
    and_right (ltb n (length memory)) _ (not-false _ (and_rest (is_store (instr_at memory a)) _ h (c a l))))))

guard_near_lem : (t : Technique) (memory : List ℕ) (n : ℕ) (edges : List ℕ) (w : ℕ) → GuardsKept t memory n edges
    → guard_near t memory n w ≡ inside_guard t memory n edges w
guard_near_lem Technique.Plain memory n edges w h = sym (inside_jump Technique.Plain memory n edges w h.jumps)
guard_near_lem Technique.MemoryGuards memory n edges w h =
    rw (inside_store memory n w h.stores, inside_jump Technique.MemoryGuards memory n edges w h.jumps)

pub branch_wrong_lem : (t : Technique) (memory : List ℕ) (n : ℕ) (edges : List ℕ) (i : Instr) → GuardsKept t memory n edges
    → branch_bad t memory n i ≡ target_wrong_if_any t memory n edges (branch_target i)
branch_wrong_lem t memory n edges i h = go (branch_target i)
  where
    go : (o : Option ℕ) → target_bad_if_any t memory n o ≡ target_wrong_if_any t memory n edges o
    go None = refl
    go (Some w) = rw (guard_near_lem t memory n edges w h)

-- a search for the last word of a sequence, from w on
module _ (kind : Instr → Bool) (memory : List ℕ) (len w : ℕ) where
  abbrev near_at : ℕ → Bool
  near_at a = kind (instr_at memory a) && (leb w a && ltb (a + 1) (w + len))

  near_hit : (n a : ℕ) → a < n → w ≤ a → a + 1 < w + len → kind (instr_at memory a) ≡ true → true ≡ any near_at n
  near_hit n a l lo hi e = sym (any_hit near_at n a l (rw (e, le-leb w a lo, lt-ltb (a + 1) (w + len) hi)))

  -- the chain over the numbers from w up to `end`
  pub near_listed : (f : ℕ → Bool) (n end : ℕ) → ((a : ℕ) → f a ≡ kind (instr_at memory a)) → end ≤ n → end < w + len
      → ((x : ℕ) → x < n → end ≤ x → w + len ≤ x + 1) → list_any f (range_with_len w (end - w)) ≡ any near_at n
  near_listed f n end same low high far = same_bool _ _ out back
    where
      out : list_any f (range_with_len w (end - w)) ≡ true → any near_at n ≡ true
      out e =
          let v = Any-from_list_any f (range_with_len w (end - w)) e in
          let l : v.0 < end - w = omega (arith, v.2, length-range_with_len w (end - w)) in
          let place : v.1 ≡ w + v.0 = sym v.3 ∙ get_or-range_with_len w (end - w) v.0 v.1 l in
          sym (near_hit n (w + v.0) (omega arith) (omega arith) (omega arith)
          (sym (same (w + v.0)) ∙ subst (λ (x : ℕ). f x ≡ true) place v.4))

      back : any near_at n ≡ true → list_any f (range_with_len w (end - w)) ≡ true
      back e =
          let v = any_witness near_at n e in
          let k = v.0 in
          let both = and_right (kind (instr_at memory k)) (leb w k && ltb (k + 1) (w + len)) v.2 in
          let lo : w ≤ k = leb-true w k (and_left (leb w k) (ltb (k + 1) (w + len)) both) in
          let hi : k + 1 < w + len = ltb-true (k + 1) (w + len) (and_right (leb w k) (ltb (k + 1) (w + len)) both) in
          let past : end ≤ k → ⊥ = λ q. omega (arith, far k v.1 q, hi) in
          let here : k - w < end - w = omega (arith, past, lo) in
          let place : get_or (range_with_len w (end - w)) (k - w) 0 ≡ k =
          get_or-range_with_len w (end - w) (k - w) 0 here ∙ omega (arith, lo) in
          list_any_at f (range_with_len w (end - w)) (k - w) 0 (omega (arith, here, length-range_with_len w (end - w)))
          (subst (λ (x : ℕ). f x ≡ true) (sym place)
          (same k ∙ and_left (kind (instr_at memory k)) (leb w k && ltb (k + 1) (w + len)) v.2))
