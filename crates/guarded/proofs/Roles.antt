-- What each word of the new code may be: labels stand at the front of a destination's block, jmps (and sts that have a guard) at the end of
-- the block of one, and branches lead to HALT or to the front of a block. The words of a filled guard are such, by computation.
use Prim.Native.Nat.{ℕ, ◌+◌, ◌-◌, ◌<◌}
use mathlib.Core.Path.{◌≡◌, refl, ap, subst, ◌∙◌}
use mathlib.Core.Bool.{Bool, true, false, ◌&&◌}
use mathlib.Core.Logic.{◌⊎◌, inl}
use mathlib.Core.List.{List}
use native.Mathlib.Omega.{arith}
use lib.ListN.{length}
use Rattle.lists.proofs.Bools.{both_true, true_false}
use Rattle.isa.specs.declared.Kind.{Kind}
use Rattle.isa.specs.declared.Instr.{Instr}
use Rattle.isa.specs.declared.Technique.{Technique}
use Rattle.isa.specs.Words.{same_kind, fields_of}
use Rattle.isa.specs.Instructions.{instr_at, is_kind, is_jump, is_store, is_branch}
use Rattle.graph.specs.Claim.{is_destination}
use Rattle.guards.specs.Sequences.{jump_guard, store_guard}
use Rattle.guarded.specs.Rewrite.{guards_stores, map_of, new_length, filled, new_jump}
use Rattle.guarded.proofs.Fill.{AllAt}

-- asked only where a test holds
abbrev pub Where : Bool → Type 0 → Type 0
Where true A = A
Where false A = Unit {0}

where_held : {A : Type 0} (b : Bool) → (b ≡ true → A) → Where b A
where_held true h = h refl
where_held false h = tt

pub held : (b : Bool) (A : Type 0) → b ≡ true → Where b A → A
held b A e h = subst (λ (c : Bool). Where c A) e h

module _ (t : Technique) (bare : List ℕ) (n : ℕ) (edges : List ℕ) where
  pub record FrontAt (p : ℕ) : Type 0 where
    pub a : ℕ
    pub below : a < n
    pub destination : is_destination edges a ≡ true
    pub here : p ≡ map_of t bare edges a

  -- the last word of the block of a word that a test holds of
  pub record EndAt (test : Instr → Bool) (p : ℕ) : Type 0 where
    pub a : ℕ
    pub below : a < n
    pub was : test (instr_at bare a) ≡ true
    pub here : p ≡ new_jump t bare edges a

  abbrev pub is_guarded_store : Instr → Bool
  is_guarded_store i = guards_stores t && is_store i

  -- HALT, or the front of a block
  abbrev pub Front : ℕ → Type 0
  Front w = (w ≡ new_length t bare n edges - 1) ⊎ ((x : ℕ) × (x < n) × (w ≡ map_of t bare edges x))

  abbrev pub Role : Instr → ℕ → Type 0
  Role i p =
      Where (is_kind Kind.Label i) (FrontAt p)
      × Where (is_jump i) (EndAt is_jump p)
      × Where (is_store i) (Where (guards_stores t) (EndAt is_guarded_store p))
      × Where (is_branch i) (Front (fields_of i).w)

  abbrev quiet : Unit {0} × Unit {0} × Unit {0} × Unit {0}
  quiet = (tt, tt, tt, tt)

  abbrev halting : Unit {0} × Unit {0} × Unit {0} × Front (new_length t bare n edges - 1)
  halting = (tt, tt, tt, inl refl)

  -- the words of a filled guard
  pub jump_roles : (u : Technique) (id rs b : ℕ) → ((p : ℕ) → p + 1 ≡ b + length (jump_guard u 0 0) → EndAt is_jump p)
      → AllAt Role (filled (jump_guard u (new_length t bare n edges) id) rs 0 0) b
  jump_roles Technique.Plain id rs b last =
      (quiet, (quiet, (quiet, (halting, (halting, ((tt, last _ (omega arith), tt, tt), tt))))))
  jump_roles Technique.MemoryGuards id rs b last =
      (quiet, (quiet, (quiet, (halting, (halting, (quiet, (quiet, (halting, (halting, ((tt, last _ (omega arith), tt, tt), tt))))))))))

  pub store_roles : (len rd rs w b : ℕ) → ((p : ℕ) → p + 1 ≡ b + length (store_guard 0 0) → EndAt is_guarded_store p)
      → AllAt Role (filled (store_guard (new_length t bare n edges) len) rd w rs) b
  store_roles len rd rs w b last =
      (quiet, (quiet, (quiet, (halting, (halting, ((tt, tt, where_held (guards_stores t) (λ _. last _ (omega arith)), tt), tt))))))

  -- a word j of the same kind as i, which is no label and has no guard
  pub other_role : (i j : Instr) (p : ℕ) → (fields_of i).kind ≡ (fields_of j).kind → (is_kind Kind.Label i ≡ true → ⊥)
      → is_jump i ≡ false → is_guarded_store i ≡ false → (is_branch j ≡ true → Front (fields_of j).w) → Role j p
  other_role i j p same label jump store front = (
    where_held (is_kind Kind.Label j) (λ e. absurd (label (ap (same_kind Kind.Label) same ∙ e))),
    where_held (is_jump j) (λ e. absurd (true_false (ap (same_kind Kind.Jmp) same ∙ e) jump)),
    where_held (is_store j) (λ e.
        where_held (guards_stores t) (λ g. absurd (true_false (both_true g (ap (same_kind Kind.St) same ∙ e)) store))),
    where_held (is_branch j) front,
  )
