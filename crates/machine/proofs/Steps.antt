-- Laws of the step and the run: what a step's effect writes is in range; what carrying it out on lent registers and memory
-- says of the step, and of a turn of the run.
use Rattle.std.proofs.Common.{◌≡◌, ℕ, suc, ◌+◌, ◌-◌, ◌^◌, ◌<◌, ◌≤◌, Bool, true, false, cond, ltb, leb, List, length, get_or, sym, refl, ◌∙◌, arith, length-set, ltb-true, leb-true, le-ltb, le-leb, subst, Result, Ok, Err}
use Rattle.lists.proofs.Bools.{clash, and_left, and_right, both_true}
use Rattle.answers.specs.Shape.{memory_shaped}
use Rattle.isa.specs.declared.Instr.{Instr}
use Rattle.isa.specs.declared.Technique.{Technique}
use Rattle.isa.specs.Instructions.{instr_at}
use Rattle.isa.specs.Theorems.{Registers}
use Rattle.isa.proofs.Words.{decode_registers}
use Rattle.addresses.specs.Addresses.{address_of}
use Rattle.machine.specs.declared.State.{State}
use Rattle.machine.specs.declared.At.{At}
use Rattle.machine.specs.declared.Stop.{Stop}
use Rattle.machine.specs.declared.Effect.{Effect}
use Rattle.machine.specs.declared.Halt.{Halt}
use Rattle.machine.specs.Steps.{fetch_end, store_start, next_allowed, reg_of, stack_places, latest_of, step_shaped, load_of, store_of, call_of, return_of, effect_of, settle_of, intent_of, stepped, storable, next_in, after_of, memory_after, step_of, step_memory}
use Rattle.machine.specs.Runs.{ran, run_from, run_memory_from}
use Rattle.machine.specs.Inside.{state_at, InRange, moved_of, registers_after, stack_after, Carried}

-- what is about to be done is in range, where it is not a stop
abbrev InRangeIf : ℕ → ℕ → Result Effect Stop → Type 0
InRangeIf len depth (Ok effect) = InRange len depth effect
InRangeIf len depth (Err stop) = Unit {0}

in-cond : (len depth : ℕ) (b : Bool) (e : Effect) (stop : Stop) → (b ≡ true → InRange len depth e)
    → InRangeIf len depth (cond b (Ok e) (Err stop))
in-cond len depth true e stop h = h refl
in-cond len depth false e stop h = tt {0}

effect_in : (t : Technique) (n : ℕ) (m : List ℕ) (s : State) (i : Instr) → Registers i → InRangeIf (length m) s.depth (effect_of t n m s i)
unfolding effect_of load_of store_of call_of return_of
effect_in t n m s (Instr.Label w) r = tt {0}
effect_in t n m s (Instr.Add rd rs rt) r = r.0
effect_in t n m s (Instr.Addi rd rs w) r = r.0
effect_in t n m s (Instr.Movi rd w) r = r
effect_in t n m s (Instr.Bgt rs rt w) r = tt {0}
effect_in t n m s (Instr.Jd w) r = tt {0}
effect_in t n m s (Instr.Jmp rs) r = tt {0}
effect_in t n m s (Instr.Ld rd rs w) r =
    let at = address_of (reg_of s rs) w in
    in-cond (length m) s.depth (ltb at (length m)) (Effect.SetRegister rd (get_or m at 0) (s.pc + 1)) Stop.Access (λ k. r.0)
effect_in t n m s (Instr.St rd rs w) r =
    let at = address_of (reg_of s rd) w in
    in-cond (length m) s.depth (storable t n m at) (Effect.PutWord at (reg_of s rs) (s.pc + 1)) Stop.Access
    (λ k. ltb-true at (length m) (and_right (leb (store_start t n) at) (ltb at (length m)) k))
effect_in t n m s (Instr.Call w) r =
    in-cond (length m) s.depth (ltb s.depth stack_places) (Effect.Push (s.pc + 1) w) Stop.Full (ltb-true s.depth stack_places)
effect_in t n m s Instr.Ret r =
    in-cond (length m) s.depth (ltb 0 s.depth) (Effect.Pop (latest_of s.depth s.stack)) Stop.Empty (ltb-true 0 s.depth)
effect_in t n m s Instr.Illegal r = tt {0}

settle_in : (t : Technique) (n len depth : ℕ) (e : Result Effect Stop) → InRangeIf len depth e → InRangeIf len depth (settle_of t n e)
unfolding settle_of
settle_in t n len depth (Ok effect) h = in-cond len depth (next_allowed t n (next_in effect)) effect Stop.Next (λ k. h)
settle_in t n len depth (Err stop) h = tt {0}

intent_if : (t : Technique) (n : ℕ) (m : List ℕ) (s : State) → InRangeIf (length m) s.depth (intent_of t n m s)
unfolding intent_of
intent_if t n m s = go (ltb s.pc (fetch_end t n (length m)))
  where
    i : Instr
    i = instr_at m s.pc

    go : (b : Bool) → InRangeIf (length m) s.depth (cond b (settle_of t n (effect_of t n m s i)) (Err Stop.Fetch))
    go true = settle_in t n (length m) s.depth (effect_of t n m s i) (effect_in t n m s i (decode_registers (get_or m s.pc 0)))
    go false = tt {0}

pub intent_in : (t : Technique) (n : ℕ) (m regs : List ℕ) (at : At) (stack : List ℕ) (e : Effect) → intent_of t n m (state_at regs at stack) ≡ Ok e
    → InRange (length m) at.depth e
intent_in t n m regs at stack e h = subst (InRangeIf (length m) at.depth) h (intent_if t n m (state_at regs at stack))

-- a step keeps the shape of memory and depth
memory_length : (m : List ℕ) (e : Result Effect Stop) → length (memory_after m e) ≡ length m
unfolding memory_after
memory_length m (Ok (Effect.Go next)) = refl
memory_length m (Ok (Effect.SetRegister rd value next)) = refl
memory_length m (Ok (Effect.PutWord address value next)) = length-set m address value
memory_length m (Ok (Effect.Push back next)) = refl
memory_length m (Ok (Effect.Pop next)) = refl
memory_length m (Err stop) = refl

depth_kept : (len : ℕ) (s : State) (e : Result Effect Stop) → InRangeIf len s.depth e → s.depth ≤ stack_places
    → (after_of s e).state.depth ≤ stack_places
unfolding after_of
depth_kept len s (Ok (Effect.Go next)) h d = d
depth_kept len s (Ok (Effect.SetRegister rd value next)) h d = d
depth_kept len s (Ok (Effect.PutWord address value next)) h d = d
depth_kept len s (Ok (Effect.Push back next)) h d = omega (arith, h)
depth_kept len s (Ok (Effect.Pop next)) h d = omega (arith, d)
depth_kept len s (Err stop) h d = d

pub shape_kept : (t : Technique) (n : ℕ) (m : List ℕ) (s : State) → step_shaped (length m) n s.depth ≡ true
    → step_shaped (length (step_memory t n m s)) n (step_of t n m s).state.depth ≡ true
unfolding step_of step_memory
shape_kept t n m s p =
    let e = intent_of t n m s in
    let fits = leb-true s.depth stack_places (and_right (memory_shaped (length m) n) _ p) in
    rw (p, memory_length m e)
    (both_true (and_left (memory_shaped (length m) n) _ p) (le-leb _ _ (depth_kept (length m) s e (intent_if t n m s) fits)))

-- no memory reaches past the top
pub past_end : (m : List ℕ) (a : ℕ) → length m < 2 ^ 64 → 2 ^ 64 ≤ a → ltb a (length m) ≡ false
past_end m a l h = le-ltb a (length m) (omega arith)

-- a run that has made as many steps as its limit
pub run_spent : (t : Technique) (n limit : ℕ) (m : List ℕ) (s : State) (count : ℕ) → limit ≤ count
    → (run_from t n (limit - count) m s count ≡ ran s (Ok tt) count) × (run_memory_from t n (limit - count) m s ≡ m)
unfolding run_from run_memory_from
run_spent t n limit m s count h = let e : limit - count ≡ 0 = omega arith in (rw e, rw e)

-- what a step answers, by what stands apart
after_made : (regs stack : List ℕ) (at : At) (e : Result Effect Stop) (next : At) → moved_of at.depth e ≡ Ok next
    → after_of (state_at regs at stack) e ≡ stepped (state_at (registers_after regs e) next (stack_after stack at.depth e)) (Ok tt)
unfolding moved_of registers_after stack_after after_of
after_made regs stack at (Ok (Effect.Go x)) next h = cc
after_made regs stack at (Ok (Effect.SetRegister rd v x)) next h = cc
after_made regs stack at (Ok (Effect.PutWord a v x)) next h = cc
after_made regs stack at (Ok (Effect.Push back x)) next h = cc
after_made regs stack at (Ok (Effect.Pop x)) next h = cc
after_made regs stack at (Err stop) next h = clash (cc)

-- where it stops: the state is as it was
record StoppedSo (regs stack : List ℕ) (at : At) (e : Result Effect Stop) (q : Stop) : Type 0 where
  pub answer : after_of (state_at regs at stack) e ≡ stepped (state_at regs at stack) (Err (Halt.Stopped q))
  pub same_registers : registers_after regs e ≡ regs
  pub same_stack : stack_after stack at.depth e ≡ stack

after_stopped : (regs stack : List ℕ) (at : At) (e : Result Effect Stop) (q : Stop) → moved_of at.depth e ≡ Err q
    → StoppedSo regs stack at e q
unfolding moved_of registers_after stack_after after_of
after_stopped regs stack at (Ok effect) q h = clash (cc)
after_stopped regs stack at (Err stop) q h = record { answer = cc; same_registers = refl; same_stack = refl }

module _ (t : Technique) (n : ℕ) (m regs stack : List ℕ) (at : At) (r : Result At Stop) (regs' m' stack' : List ℕ)
    (p : step_shaped (length m) n at.depth ≡ true)
    (k : Carried (intent_of t n m (state_at regs at stack)) at.depth regs m stack r regs' m' stack') where
  step_made : (next : At) → r ≡ Ok next
      → (step_of t n m (state_at regs at stack) ≡ stepped (state_at regs' next stack') (Ok tt)) × (step_memory t n m (state_at regs at stack) ≡ m')
  unfolding step_of step_memory
  step_made next h =
      let e = after_made regs stack at (intent_of t n m (state_at regs at stack)) next (sym k.answer ∙ h) in
      (rw (p, k.registers, k.stacked) e, rw (p, k.memory))

  step_stopped : (q : Stop) → r ≡ Err q
      → (step_of t n m (state_at regs at stack) ≡ stepped (state_at regs' at stack') (Err (Halt.Stopped q)))
      × (step_memory t n m (state_at regs at stack) ≡ m')
  unfolding step_of step_memory
  step_stopped q h =
      let e = after_stopped regs stack at (intent_of t n m (state_at regs at stack)) q (sym k.answer ∙ h) in
      (rw (p, k.registers, k.stacked, e.same_registers, e.same_stack) e.answer, rw (p, k.memory))

  pub turn_made : (limit count : ℕ) (next : At) → count < limit → r ≡ Ok next
      → (run_from t n (limit - count) m (state_at regs at stack) count
      ≡ run_from t n (limit - (count + 1)) m' (state_at regs' next stack') (count + 1))
      × (run_memory_from t n (limit - count) m (state_at regs at stack)
      ≡ run_memory_from t n (limit - (count + 1)) m' (state_at regs' next stack'))
      × (step_shaped (length m') n next.depth ≡ true)
  unfolding run_from run_memory_from
  turn_made limit count next h q =
      let left : limit - count ≡ suc (limit - (count + 1)) = omega arith in
      let s = step_made next q in
      (rw (left, s.0, s.1), rw (left, s.0, s.1), rw (s.0, s.1) at (shape_kept t n m (state_at regs at stack) p))

  pub turn_stopped : (limit count : ℕ) (q : Stop) → count < limit → r ≡ Err q
      → (run_from t n (limit - count) m (state_at regs at stack) count ≡ ran (state_at regs' at stack') (Err (Halt.Stopped q)) count)
      × (run_memory_from t n (limit - count) m (state_at regs at stack) ≡ m')
  unfolding run_from run_memory_from
  turn_stopped limit count q h g =
      let left : limit - count ≡ suc (limit - (count + 1)) = omega arith in
      let s = step_stopped q g in
      (rw (left, s.0), rw (left, s.0, s.1))
