-- The tests on instructions read backwards: the instruction that passes each.
use Prim.Native.Nat.{ℕ}
use mathlib.Core.Path.{◌≡◌, refl}
use mathlib.Core.Bool.{Bool, true, false, cond}
use Rattle.std.specs.Prelude.{Option, None, Some}
use Rattle.isa.specs.declared.Kind.{Kind}
use Rattle.isa.specs.declared.Instr.{Instr}
use Rattle.isa.specs.Words.{fields_of}
use Rattle.isa.specs.Instructions.{is_illegal, is_kind, is_jump, is_store, label_number}
use Rattle.isa.proofs.ByKind.{of_kind}
use Rattle.graph.specs.Rules.{is_label, is_label_of}

pub jump_instr : (i : Instr) → is_jump i ≡ true → (rs : ℕ) × (i ≡ Instr.Jmp rs)
jump_instr i e = ((fields_of i).a, of_kind Kind.Jmp i e)

pub store_instr : (i : Instr) → is_store i ≡ true → (rd : ℕ) × ((rs : ℕ) × ((w : ℕ) × (i ≡ Instr.St rd rs w)))
store_instr i e = ((fields_of i).a, ((fields_of i).b, ((fields_of i).w, of_kind Kind.St i e)))

pub label_instr : (i : Instr) → is_label (label_number i) ≡ true → (w : ℕ) × (i ≡ Instr.Label w)
label_instr i e = ((fields_of i).w, of_kind Kind.Label i (go (is_kind Kind.Label i) e))
  where
    go : (b : Bool) → is_label (cond b (Some (fields_of i).w) None) ≡ true → b ≡ true
    go true h = refl
    go false h = h

pub label_of_is : (l : Option ℕ) (id : ℕ) → is_label_of l id ≡ true → is_label l ≡ true
label_of_is None id e = e
label_of_is (Some w) id e = refl

pub illegal_instr : (i : Instr) → is_illegal i ≡ true → i ≡ Instr.Illegal
illegal_instr i e = of_kind Kind.Unknown i e
