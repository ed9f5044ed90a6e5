-- Refused calls change nothing: the words of a state, put back where they came from, are the same words.
use Prim.Native.Nat.{ℕ}
use mathlib.Core.Path.{◌≡◌, refl, ap, ◌∙◌}
use mathlib.Core.Bool.{Bool, true, false, cond, ◌&&◌}
use mathlib.Core.List.{List}
use lib.ListN.{length, set}
use borrow.Author.Tests.{ltb-false}
use Rattle.std.specs.Prelude.{Ok, Err}
use Rattle.answers.specs.declared.Refusal.{Refusal}
use Rattle.answers.specs.Shape.{memory_shaped}
use Rattle.machine.specs.declared.State.{State}
use Rattle.machine.specs.Steps.{depth_fits, step_shaped, step_of}
use Rattle.machine.specs.Runs.{run_of, run_memory}
use Rattle.machine.specs.Lent.{state_in, words_of, short_state}
use Rattle.machine.proofs.Theorems.{unmade_changes_nothing}
use Rattle.machine.proofs.Lent.{put_back}
use Rattle.bus.specs.Numbers.{written_number}
use Rattle.bus.specs.Bus.{in_data, writable, write_data_of, write_data_memory, write_register_of}
use Rattle.lists.specs.Places.{shorter, put_over}
use Rattle.capi.specs.States.{technique_of, outcome_answer, StepCall, RunCall, WriteDataCall, WriteRegisterCall}
use Rattle.capi.specs.Theorems.{RefusedChangesNothing}

same_state : (words : List ℕ) (s : State) → short_state words ≡ false → s ≡ state_in words → put_over (words_of s) words ≡ words
same_state words s l e = ap (λ (x : State). put_over (words_of x) words) e ∙ put_back words (ltb-false _ _ l)

step_unchanged :
    (technique n : ℕ) (state memory : List ℕ) (r : ℕ) (state' memory' : List ℕ)
    → StepCall technique n state memory r state' memory' → (r ≡ 0 → ⊥) → (state' ≡ state) × (memory' ≡ memory)
step_unchanged technique n state memory r state' memory' call stopped = go (short_state state) refl
  where
    go : (b : Bool) → short_state state ≡ b → (state' ≡ state) × (memory' ≡ memory)
    go true e = (rw e at call.state_after, rw e at call.memory_after)
    go false e =
        let u = unmade_changes_nothing (technique_of technique) n memory (state_in state) in
        let m : (step_of (technique_of technique) n memory (state_in state)).outcome ≡ Ok tt → ⊥ =
        λ made. stopped ((rw e at call.answer) ∙ ap outcome_answer made) in
        ((rw e at call.state_after) ∙ same_state state _ e (u.state_same m), (rw e at call.memory_after) ∙ u.memory_same m)

run_unchanged :
    (technique n limit : ℕ) (state memory count : List ℕ) (r : ℕ) (state' memory' count' : List ℕ)
    → RunCall technique n limit state memory count r state' memory' count' → step_shaped (length memory) n (state_in state).depth ≡ false
    → (state' ≡ state) × (memory' ≡ memory)
unfolding run_of run_memory
run_unchanged technique n limit state memory count r state' memory' count' call odd = go (short_state state) refl (shorter count 1) refl
  where
    go : (b : Bool) → short_state state ≡ b → (c : Bool) → shorter count 1 ≡ c → (state' ≡ state) × (memory' ≡ memory)
    go true e c f = (rw e at call.state_after, rw e at call.memory_after)
    go false e true f = (rw (e, f) at call.state_after, rw (e, f) at call.memory_after)
    go false e false f =
        ((rw (e, f, odd) at call.state_after) ∙ put_back state (ltb-false _ _ e), rw (e, f, odd) at call.memory_after)

write_data_unchanged :
    (n : ℕ) (memory : List ℕ) (address word r : ℕ) (memory' : List ℕ) → WriteDataCall n memory address word r memory' → (r ≡ 0 → ⊥)
    → memory' ≡ memory
unfolding write_data_of write_data_memory
write_data_unchanged n memory address word r memory' call refused =
    go (memory_shaped (length memory) n) (in_data n (length memory) address) call.answer call.memory_after
  where
    go : (b c : Bool) → r ≡ written_number (cond b (cond c (Ok tt) (Err Refusal.NotData)) (Err Refusal.Shape))
        → memory' ≡ cond (b && c) (set memory address word) memory → memory' ≡ memory
    go true true e f = absurd (refused e)
    go true false e f = f
    go false c e f = f

write_register_unchanged :
    (state : List ℕ) (register word r : ℕ) (state' : List ℕ) → WriteRegisterCall state register word r state' → (r ≡ 0 → ⊥)
    → state' ≡ state
unfolding write_register_of
write_register_unchanged state register word r state' call refused =
    go (short_state state) refl (depth_fits (state_in state).depth) refl (writable register) refl
  where
    go : (b : Bool) → short_state state ≡ b → (d : Bool) → depth_fits (state_in state).depth ≡ d → (c : Bool) → writable register ≡ c
        → state' ≡ state
    go true e d g c f = rw e at call.state_after
    go false e true g true f = absurd (refused (rw (e, g, f) at call.answer))
    go false e true g false f = (rw (e, g, f) at call.state_after) ∙ put_back state (ltb-false _ _ e)
    go false e false g c f = (rw (e, g) at call.state_after) ∙ put_back state (ltb-false _ _ e)

pub refused_changes_nothing : RefusedChangesNothing
refused_changes_nothing =
    record { step = step_unchanged; run = run_unchanged; write_data = write_data_unchanged; write_register = write_register_unchanged }
