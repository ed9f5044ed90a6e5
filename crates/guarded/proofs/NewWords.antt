-- The role of every word of the new code, and the guards that stand in it: block by block, by what the bare word was.
use Prim.Native.Nat.{ℕ, zero, suc, ◌+◌, ◌-◌, ◌^◌, ◌<◌, ◌≤◌}
use mathlib.Core.Path.{◌≡◌, refl, sym, ap, subst, ◌∙◌}
use mathlib.Core.Bool.{Bool, true, false, cond, ◌&&◌}
use mathlib.Core.Logic.{inr}
use Rattle.std.specs.Prelude.{None, Some}
use mathlib.Core.List.{List, [], map}
use native.Mathlib.Omega.{arith}
use native.Mathlib.Decide.{dec_lt}
use lib.ListN.{length, get_or}
use Rattle.lists.specs.Search.{bit}
use Rattle.lists.proofs.Bools.{and_right, true_false}
use Rattle.isa.specs.declared.Kind.{Kind}
use Rattle.isa.specs.declared.Instr.{Instr}
use Rattle.isa.specs.declared.Technique.{Technique}
use Rattle.isa.specs.Words.{fields_of, decode_of, encode_of}
use Rattle.isa.specs.Instructions.{instr_at, is_jump, is_store, is_branch}
use Rattle.isa.specs.Theorems.{Registers}
use Rattle.isa.proofs.Words.{decode_registers, round_trips}
use Rattle.isa.proofs.ByKind.{of_kind, kind_decode}
use Rattle.graph.specs.Claim.{is_destination, id_of}
use Rattle.guards.specs.declared.Slot.{Slot}
use Rattle.guards.specs.Sequences.{jump_guard, store_guard}
use Rattle.guards.proofs.Arrays.{jump_formed, store_formed}
use Rattle.checker.specs.Conditions.{EndsWith}
use Rattle.guarded.specs.Rewrite.{guards_stores, body_size, block_size, map_of, new_length, filled, with_target, set_of, new_jump}
use Rattle.guarded.specs.Theorems.{Rewritable, Stand, new_memory, body_start}
use Rattle.guarded.proofs.Blocks.{locate}
use Rattle.guarded.proofs.Cases.{at_other, moves}
use Rattle.guarded.proofs.Places.{
  jump_guard_length,
  jump_size,
  store_size,
  map_next,
  map_le,
  memory_length,
  last_word,
  label_at_lem,
  body_ends,
  jump_stands,
  store_stands,
  other_stands,
}
use Rattle.guarded.proofs.Claims.{id_low, jump_next}
use Rattle.guarded.proofs.Fill.{first_stands, Fillable, filled_stands, filled_all}
use Rattle.guarded.proofs.Roles.{Front, Role, jump_roles, store_roles, other_role}

module _ (t : Technique) (bare : List ℕ) (n : ℕ) (edges values : List ℕ) (ok : Rewritable t bare n edges (length values)) where
  abbrev memory : List ℕ
  memory = new_memory t bare n edges values

  abbrev N : ℕ
  N = new_length t bare n edges

  abbrev new : ℕ → ℕ
  new a = map_of t bare edges a

  abbrev start : ℕ → ℕ
  start a = body_start t bare n edges values a

  abbrev old : ℕ → Instr
  old a = instr_at bare a

  abbrev RoleAt : ℕ → Type 0
  RoleAt p = Role t bare n edges (instr_at memory p) p

  -- ---- labels

  new_low : (a : ℕ) → a ≤ n → new a < 2 ^ 32
  new_low a h = let l = map_le t bare edges a n h in let x = ok.length_limit in omega arith

  pub label_back : (a : ℕ) → a < n → is_destination edges a ≡ true → instr_at memory (new a) ≡ Instr.Label (new (set_of edges n a))
  label_back a h e =
      ap decode_of (label_at_lem t bare n edges values a h e)
      ∙ round_trips.instruction_back (Instr.Label (new (set_of edges n a))) tt (new_low (set_of edges n a) (id_low edges n _))

  -- ---- guards

  -- the guard of a jmp, and that of a st
  abbrev for_jump : ℕ → List Slot
  for_jump a = jump_guard t N (new (id_of edges n a))

  abbrev for_store : List Slot
  for_store = store_guard N (length memory)

  jump_fillable : (a : ℕ) → is_jump (old a) ≡ true → Fillable (for_jump a) (fields_of (old a)).a 0 0
  jump_fillable a e =
      record {
        formed = jump_formed N ok.length_limit t (new (id_of edges n a)) (new_low (id_of edges n a) (id_low edges n a));
        register = subst Registers (of_kind Kind.Jmp (old a) e) (decode_registers (get_or bare a 0));
        short = omega arith;
        later_register = omega arith;
      }

  store_fillable : (a : ℕ) → (guards_stores t && is_store (old a)) ≡ true
      → Fillable for_store (fields_of (old a)).a (fields_of (old a)).w (fields_of (old a)).b
  store_fillable a g =
      let e = and_right (guards_stores t) (is_store (old a)) g in
      let r = subst Registers (of_kind Kind.St (old a) e) (decode_registers (get_or bare a 0)) in
      record {
        formed =
            store_formed N ok.length_limit (length memory)
            (let m = memory_length t bare n edges values in let x = ok.length_limit in let d = ok.data_limit in omega arith);
        register = r.0;
        short = omega (arith, ap (λ (i : Instr). (fields_of i).w) (kind_decode Kind.St refl (get_or bare a 0) e));
        later_register = r.1;
      }

  -- a filled guard that stands for the word at a ends at the last word of a's block
  guard_ends : (a : ℕ) (slots : List Slot) (r w later : ℕ) → Fillable slots r w later → length slots ≡ body_size t (old a)
      → Stand memory (start a) (map encode_of (filled slots r w later)) → EndsWith memory slots (new_jump t bare edges a)
  guard_ends a slots r w later f size there =
      let z = body_ends t bare n edges values a in
      let j = jump_next t bare edges a in
      record { first = start a; last = omega arith; stands = filled_stands memory slots (start a) r w later f there }

  pub jump_ends : (a : ℕ) → a < n → is_jump (old a) ≡ true → EndsWith memory (for_jump a) (new_jump t bare edges a)
  jump_ends a h e =
      guard_ends a (for_jump a) (fields_of (old a)).a 0 0 (jump_fillable a e) (jump_size t N (old a) (new (id_of edges n a)) e)
      (jump_stands t bare n edges values a h e)

  pub store_ends : (a : ℕ) → a < n → (guards_stores t && is_store (old a)) ≡ true → EndsWith memory for_store (new_jump t bare edges a)
  store_ends a h e =
      guard_ends a for_store (fields_of (old a)).a (fields_of (old a)).w (fields_of (old a)).b
      (store_fillable a e) (store_size t N (old a) (length memory) e) (store_stands t bare n edges values a h e)

  -- ---- roles

  -- a word without a guard: a branch moved, or the word itself
  one_word : (a : ℕ) → a < n → is_jump (old a) ≡ false → (guards_stores t && is_store (old a)) ≡ false → RoleAt (start a)
  one_word a h e f = go (is_branch (old a)) refl
    where
      w : ℕ
      w = (fields_of (old a)).w

      same_kind_lem : (i : Instr) → instr_at memory (start a) ≡ i → (fields_of (old a)).kind ≡ (fields_of i).kind
          → (is_branch i ≡ true → Front t bare n edges (fields_of i).w) → RoleAt (start a)
      same_kind_lem i there kind front =
          subst (λ (x : Instr). Role t bare n edges x (start a)) (sym there)
          (other_role t bare n edges (old a) i (start a) kind (λ l. ok.no_label a w h (of_kind Kind.Label (old a) l)) e f front)

      go : (b : Bool) → is_branch (old a) ≡ b → RoleAt (start a)
      go true q =
          let within = ok.branches_within a w h (ap (λ (b : Bool). cond b (Some w) None) q) in
          let m = moves (get_or bare a 0) (new w) q (new_low w (omega arith)) in
          let there = first_stands memory (start a) (encode_of (with_target (old a) (new w))) [] (other_stands t bare n edges values a h true e f q) in
          same_kind_lem (with_target (old a) (new w)) (ap decode_of there ∙ m.back) m.kind (λ _. inr (w, within, m.target))
      go false q =
          let there = first_stands memory (start a) (get_or bare a 0) [] (other_stands t bare n edges values a h false e f q) in
          same_kind_lem (old a) (ap decode_of there) refl (λ b. absurd (true_false b q))

  word_role : (a k : ℕ) → a < n → k < body_size t (old a) → RoleAt (start a + k)
  word_role a k h l = go (is_jump (old a)) (guards_stores t && is_store (old a)) refl refl
    where
      go : (j s : Bool) → is_jump (old a) ≡ j → (guards_stores t && is_store (old a)) ≡ s → RoleAt (start a + k)
      go true s e f =
          let z = body_ends t bare n edges values a in
          let o = jump_next t bare edges a in
          let y = jump_size t N (old a) (new (id_of edges n a)) e in
          let x = jump_guard_length t N (new (id_of edges n a)) in
          filled_all memory (Role t bare n edges) (for_jump a) (start a) (fields_of (old a)).a 0 0 (jump_fillable a e)
          (jump_stands t bare n edges values a h e)
          (jump_roles t bare n edges t (new (id_of edges n a)) (fields_of (old a)).a (start a)
          (λ p q. record { a = a; below = h; was = e; here = omega arith }))
          k (omega arith)
      go false true e f =
          let z = body_ends t bare n edges values a in
          let o = jump_next t bare edges a in
          let y = store_size t N (old a) (length memory) f in
          filled_all memory (Role t bare n edges) for_store (start a) (fields_of (old a)).a (fields_of (old a)).w (fields_of (old a)).b
          (store_fillable a f) (store_stands t bare n edges values a h f)
          (store_roles t bare n edges (length memory) (fields_of (old a)).a (fields_of (old a)).b (fields_of (old a)).w (start a)
          (λ p q. record { a = a; below = h; was = f; here = omega arith }))
          k (omega arith)
      go false false e f =
          let y = at_other t (old a) (length (jump_guard t 0 0)) (length (store_guard 0 0)) 1 e f in
          let z : start a ≡ start a + k = omega arith in
          subst RoleAt z (one_word a h e f)

  block_role : (a k : ℕ) → a < n → (d : Bool) → is_destination edges a ≡ d → k < bit d + body_size t (old a) → RoleAt (new a + k)
  block_role a zero h true e l =
      let z : new a ≡ new a + 0 = omega arith in
      subst RoleAt z
      (subst (λ (i : Instr). Role t bare n edges i (new a)) (sym (label_back a h e)) (record { a = a; below = h; destination = e; here = refl }, tt, tt, tt))
  block_role a (suc k) h true e l =
      let y = ap bit e in
      let z : start a + k ≡ new a + suc k = omega arith in
      subst RoleAt z (word_role a k h (omega arith))
  block_role a k h false e l =
      let y = ap bit e in
      let z : start a + k ≡ new a + k = omega arith in
      subst RoleAt z (word_role a k h (omega arith))

  pub role : (p : ℕ) → p < N → RoleAt p
  role p h = go (dec_lt p (new n))
    where
      go : Dec (p < new n) → RoleAt p
      go (yes q) =
          let l = locate (block_size t bare edges) n p q in
          let z : new l.0 + (p - new l.0) ≡ p = omega (arith, l.2) in
          subst RoleAt z
          (block_role l.0 (p - new l.0) l.1 (is_destination edges l.0) refl (omega (arith, l.2, l.3, map_next t bare edges l.0)))
      go (no q) =
          let z : N - 1 ≡ p = omega arith in
          let w : instr_at memory p ≡ Instr.Illegal = ap decode_of (rw z at (last_word t bare n edges values)) ∙ round_trips.all_bits_set in
          subst (λ (i : Instr). Role t bare n edges i p) (sym w) (tt, tt, tt, tt)
