-- Demand 3: the invariant holds of a fresh state, steps keep it, and bus writes reach neither the code nor r0, r1 and r2.
use Prim.Native.Nat.{ℕ, ◌+◌, ◌≤◌}
use mathlib.Core.Path.{◌≡◌, refl, sym, ap, ◌∙◌}
use mathlib.Core.Bool.{Bool, true, false, cond, ◌&&◌}
use mathlib.Core.List.{List, ◌++◌}
use native.Mathlib.Omega.{arith}
use lib.Dec.{leb}
use lib.ListN.{length, set, length-set, length-append, length-replicate}
use lib.Seq.{take-set-le, take-append_seam}
use borrow.Author.Tests.{leb-true}
use Rattle.lists.proofs.Bools.{clash, and_left, and_right}
use Rattle.answers.specs.Shape.{memory_shaped}
use Rattle.answers.proofs.Shape.{shaped}
use Rattle.answers.specs.declared.Refusal.{Refusal}
use Rattle.std.specs.Prelude.{Ok, Err}
use Rattle.machine.specs.declared.State.{State}
use Rattle.isa.specs.declared.Technique.{Technique}
use Rattle.machine.specs.Numbers.{outcome_number}
use Rattle.machine.specs.Steps.{stack_places, state_of, depth_fits}
use Rattle.bus.specs.declared.RegisterWritten.{RegisterWritten}
use Rattle.bus.specs.Bus.{in_data, write_data_memory, writable, write_register_of}
use Rattle.checker.specs.Conditions.{Conditions}
use Rattle.checker.proofs.Equivalence.{accepted_exactly}
use Rattle.integrity.specs.Calls.{Call, Config, config, Event, after_call, trace}
use Rattle.integrity.specs.Demand.{fresh, Held, Demand3, FourAtJump, StopFourAtJumps}
use Rattle.integrity.proofs.Inside.{Inv}
use Rattle.integrity.proofs.Steps.{step_good}
use Rattle.integrity.proofs.Traversal.{Carries, Alone, EachOf, all_member, traced}

-- a bus write to a register leaves pc, depth and stack as they are
pub registers_alone : (s : State) (register word : ℕ)
    → (regs : List ℕ) × ((write_register_of s register word).state ≡ state_of regs s.pc s.depth s.stack)
unfolding write_register_of
registers_alone s register word = go (depth_fits s.depth) (writable register)
  where
    left : RegisterWritten → Type 0
    left r = (regs : List ℕ) × (r.state ≡ state_of regs s.pc s.depth s.stack)

    go : (d b : Bool)
        → left
        (cond d
        (cond b (record { state = state_of (set s.regs register word) s.pc s.depth s.stack; answer = Ok tt }) (record { state = s; answer = Err Refusal.NotRegister }))
        (record { state = s; answer = Err Refusal.Shape }))
    go false b = (s.regs, refl)
    go true true = (set s.regs register word, refl)
    go true false = (s.regs, refl)

module _ (t : Technique) (code checked edges : List ℕ) (ok : Conditions t (code ++ checked) (length code) edges) where
  abbrev pub Kept : Config → Type 0
  Kept c = Inv t (code ++ checked) (length code) edges c

  pub at_start : (registers data_words : List ℕ) → length registers ≡ 32 → length data_words ≡ length checked → Kept (fresh registers code data_words)
  at_start registers data_words count size =
      record {
        code_same = take-append_seam code data_words ∙ sym (take-append_seam code checked);
        size_same = length-append code data_words ∙ ap (λ (d : ℕ). length code + d) size ∙ sym (length-append code checked);
        registers = count;
        in_code = omega (arith, (shaped (length (code ++ checked)) (length code) (and_left _ _ ok.shape)).some_code);
        stacked = record { size = length-replicate {A = ℕ} stack_places 0; limit = omega arith; homes = λ k l. clash (omega (arith, l)) };
        fallen = λ p. clash (omega (arith, p.here, p.past));
      }

  -- a write that is made where its test holds
  kept_if : {A : Type 0} (f : A → Config) (b : Bool) (x y : A) → (b ≡ true → Kept (f x)) → Kept (f y) → Kept (f (cond b x y))
  kept_if f true x y made refused = made refl
  kept_if f false x y made refused = refused

  word_written : (c : Config) (address word : ℕ) → length code ≤ address → Kept c → Kept (config c.state (set c.memory address word))
  word_written c address word h inv =
      record {
        code_same = take-set-le (length code) c.memory address word h ∙ inv.code_same;
        size_same = length-set c.memory address word ∙ inv.size_same;
        registers = inv.registers;
        in_code = inv.in_code;
        stacked = inv.stacked;
        fallen = inv.fallen;
      }

  pub after_data : (c : Config) (address word : ℕ) → Kept c → Kept (after_call t (length code) (Call.WriteData address word) c)
  unfolding write_data_memory
  after_data c address word inv =
      let shape = memory_shaped (length c.memory) (length code) in
      let there = in_data (length code) (length c.memory) address in
      kept_if (λ (m : List ℕ). config c.state m) (shape && there) _ _
      (λ e. word_written c address word (leb-true (length code) address (and_left _ _ (and_right shape there e))) inv)
      inv

  register_written : (c : Config) (register word : ℕ) → 3 ≤ register → Kept c
      → Kept (config (state_of (set c.state.regs register word) c.state.pc c.state.depth c.state.stack) c.memory)
  register_written c register word h inv =
      record {
        code_same = inv.code_same;
        size_same = inv.size_same;
        registers = length-set c.state.regs register word ∙ inv.registers;
        in_code = inv.in_code;
        stacked = inv.stacked;
        fallen = λ p. rw (take-set-le 3 c.state.regs register word h) (inv.fallen p);
      }

  pub after_register : (c : Config) (register word : ℕ) → Kept c → Kept (after_call t (length code) (Call.WriteRegister register word) c)
  unfolding write_register_of
  after_register c register word inv =
      kept_if (λ (r : RegisterWritten). config r.state c.memory) (depth_fits c.state.depth) _ _
      (λ fits. kept_if (λ (r : RegisterWritten). config r.state c.memory) (leb 3 register && leb register 31) _ _
      (λ e. register_written c register word (leb-true 3 register (and_left _ _ e)) inv)
      inv)
      inv

  carries : Carries t (length code) (Unit {0}) Alone (λ g. Kept) (EachOf (Held t code edges))
  carries =
      record {
        standing = λ g c inv. inv.code_same ∙ take-append_seam code checked;
        stepping = λ g c inv. step_good t code checked edges ok c inv;
        data_write = λ g. after_data;
        register_write = λ g. after_register;
      }

pub demand_3 : Demand3
demand_3 t code checked edges accepted registers data_words count size calls =
    let ok = accepted_exactly.sound t (code ++ checked) (length code) edges accepted in
    let start = fresh registers code data_words in
    λ e. all_member (Held t code edges) tt (trace t (length code) calls start) e
    (traced t (length code) (Unit {0}) Alone (λ g. Kept t code checked edges ok) (EachOf (Held t code edges)) (carries t code checked edges ok) calls
    tt start (at_start t code checked edges ok registers data_words count size))

four_at_jump : (code edges : List ℕ) (e : Event) → Held Technique.Plain code edges e → FourAtJump code edges e
four_at_jump code edges (Event.Stands c) held = tt
four_at_jump code edges (Event.Tried before outcome after) held =
    λ four. held.stop_allowed (λ made. clash (cc)) (ap outcome_number four)

pub stop_four_at_jumps : StopFourAtJumps
stop_four_at_jumps code checked edges accepted registers data_words count size calls e there =
    four_at_jump code edges e (demand_3 Technique.Plain code checked edges accepted registers data_words count size calls e there)
