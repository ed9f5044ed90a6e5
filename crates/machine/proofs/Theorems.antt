-- The theorems of `specs/Theorems.antt`, and that the number a step gives is the first reason that applies.
use Rattle.std.proofs.Common.{◌≡◌, ℕ, zero, suc, ◌+◌, ◌^◌, ◌≤◌, Bool, true, false, cond, not, ltb, leb, List, length, get_or, refl, ap, ◌∙◌, arith, lt-ltb, Result, Ok, Err}
use mathlib.Core.Bool.{and-false}
use Rattle.lists.proofs.Bools.{clash, and_left}
use Rattle.answers.specs.declared.Refusal.{Refusal}
use Rattle.answers.proofs.Shape.{shaped}
use Rattle.isa.specs.declared.Instr.{Instr}
use Rattle.isa.specs.declared.Technique.{Technique}
use Rattle.isa.specs.Instructions.{instr_at, is_illegal}
use Rattle.addresses.specs.Addresses.{address_of}
use Rattle.machine.specs.declared.State.{State}
use Rattle.machine.specs.declared.Stop.{Stop}
use Rattle.machine.specs.declared.Effect.{Effect}
use Rattle.machine.specs.declared.Halt.{Halt}
use Rattle.machine.specs.declared.Stepped.{Stepped}
use Rattle.machine.specs.Numbers.{Outcome, Number, outcome_number, stop_number}
use Rattle.machine.specs.Steps.{
  fetch_end,
  store_start,
  next_allowed,
  reg_of,
  sum_of,
  branch_of,
  stack_places,
  latest_of,
  step_shaped,
  load_of,
  store_of,
  call_of,
  return_of,
  effect_of,
  settle_of,
  intent_of,
  after_of,
  memory_after,
  step_of,
  step_memory,
  access_outside,
  stack_full,
  stack_empty,
  next_of,
  step_number,
  stepped,
  storable,
  next_in,
  Steps,
}
use Rattle.machine.specs.Runs.{if_made, run_from, run_memory_from, run_of, run_memory}
use Rattle.machine.specs.Theorems.{one_more, UnmadeChangesNothing, PastTopStops, StepThenRun}
use Rattle.machine.proofs.Steps.{past_end, shape_kept}

-- numbers: of what is about to be done, and what settling and the tests of loads and stores make of it
abbrev effect_number : Result Effect Stop → Number
effect_number (Ok effect) = Number.None
effect_number (Err stop) = Number.Stopped (stop_number stop)

after_number : (s : State) (e : Result Effect Stop) → outcome_number (after_of s e).outcome ≡ effect_number e
unfolding after_of
after_number s (Ok (Effect.Go next)) = refl
after_number s (Ok (Effect.SetRegister rd value next)) = refl
after_number s (Ok (Effect.PutWord address value next)) = refl
after_number s (Ok (Effect.Push back next)) = refl
after_number s (Ok (Effect.Pop next)) = refl
after_number s (Err stop) = refl

module _ (t : Technique) (n : ℕ) where
  abbrev settled : ℕ → Number
  settled next = cond (not (next_allowed t n next)) (Number.Stopped 4) Number.None

  settled_number : (e : Effect) → effect_number (settle_of t n (Ok e)) ≡ settled (next_in e)
  unfolding settle_of
  settled_number e = go (next_allowed t n (next_in e))
    where
      go : (b : Bool) → effect_number (cond b (Ok e) (Err Stop.Next)) ≡ cond (not b) (Number.Stopped 4) Number.None
      go true = refl
      go false = refl

  -- an instruction's own stop comes before stop 4
  before_number : (stop : Stop) (b : Bool) (e : Effect)
      → effect_number (settle_of t n (cond b (Ok e) (Err stop))) ≡ cond (not b) (Number.Stopped (stop_number stop)) (settled (next_in e))
  unfolding settle_of
  before_number stop true e = settled_number e
  before_number stop false e = refl

  effect_number_lem : (m : List ℕ) (s : State) (i : Instr)
      → effect_number (settle_of t n (effect_of t n m s i))
      ≡ cond (is_illegal i) (Number.Stopped 2)
      (cond (access_outside t n m s i) (Number.Stopped 3)
      (cond (stack_full s i) (Number.Stopped 5) (cond (stack_empty s i) (Number.Stopped 6) (settled (next_of s i)))))
  unfolding effect_of load_of store_of call_of return_of settle_of
  effect_number_lem m s (Instr.Label w) = settled_number (Effect.Go (s.pc + 1))
  effect_number_lem m s (Instr.Add rd rs rt) = settled_number (Effect.SetRegister rd (sum_of (reg_of s rs) (reg_of s rt)) (s.pc + 1))
  effect_number_lem m s (Instr.Addi rd rs w) = settled_number (Effect.SetRegister rd (sum_of (reg_of s rs) w) (s.pc + 1))
  effect_number_lem m s (Instr.Movi rd w) = settled_number (Effect.SetRegister rd w (s.pc + 1))
  effect_number_lem m s (Instr.Bgt rs rt w) = settled_number (Effect.Go (branch_of (reg_of s rs) (reg_of s rt) w (s.pc + 1)))
  effect_number_lem m s (Instr.Jd w) = settled_number (Effect.Go w)
  effect_number_lem m s (Instr.Jmp rs) = settled_number (Effect.Go (reg_of s rs))
  effect_number_lem m s (Instr.Ld rd rs w) =
      let at = address_of (reg_of s rs) w in
      before_number Stop.Access (ltb at (length m)) (Effect.SetRegister rd (get_or m at 0) (s.pc + 1))
  effect_number_lem m s (Instr.St rd rs w) =
      let at = address_of (reg_of s rd) w in
      before_number Stop.Access (storable t n m at) (Effect.PutWord at (reg_of s rs) (s.pc + 1))
  effect_number_lem m s (Instr.Call w) = before_number Stop.Full (ltb s.depth stack_places) (Effect.Push (s.pc + 1) w)
  effect_number_lem m s Instr.Ret = before_number Stop.Empty (ltb 0 s.depth) (Effect.Pop (latest_of s.depth s.stack))
  effect_number_lem m s Instr.Illegal = refl

  pub step_number_lem : (m : List ℕ) (s : State) → outcome_number (step_of t n m s).outcome ≡ step_number t n m s
  unfolding step_of intent_of
  step_number_lem m s = go (step_shaped (length m) n s.depth) (ltb s.pc (fetch_end t n (length m))) refl refl
    where
      i : Instr
      i = instr_at m s.pc

      go : (b c : Bool) → step_shaped (length m) n s.depth ≡ b → ltb s.pc (fetch_end t n (length m)) ≡ c
          → outcome_number (step_of t n m s).outcome ≡ step_number t n m s
      go false c eb ec = rw eb
      go true false eb ec = rw (eb, ec) (after_number s (Err Stop.Fetch))
      go true true eb ec =
          rw (eb, ec) (after_number s (settle_of t n (effect_of t n m s (instr_at m s.pc))) ∙ effect_number_lem m s (instr_at m s.pc))

-- the contract of `step` from its two equations
pub steps : (t : Technique) (n : ℕ) (m : List ℕ) (s : State) (r : Stepped) (m' : List ℕ) → r ≡ step_of t n m s
    → m' ≡ step_memory t n m s → Steps t n m s r m'
steps t n m s r m' answer memory =
    record {
      answer = answer;
      memory = memory;
      number = ap (λ (x : Stepped). outcome_number x.outcome) answer ∙ step_number_lem t n m s;
    }

-- an effect that is no stop makes the step
unmade : (m : List ℕ) (s : State) (e : Result Effect Stop) → ((after_of s e).outcome ≡ Ok tt → ⊥)
    → ((after_of s e).state ≡ s) × (memory_after m e ≡ m)
unfolding after_of memory_after
unmade m s (Ok (Effect.Go next)) h = absurd (h refl)
unmade m s (Ok (Effect.SetRegister rd value next)) h = absurd (h refl)
unmade m s (Ok (Effect.PutWord address value next)) h = absurd (h refl)
unmade m s (Ok (Effect.Push back next)) h = absurd (h refl)
unmade m s (Ok (Effect.Pop next)) h = absurd (h refl)
unmade m s (Err stop) h = (refl, refl)

step_unmade : (t : Technique) (n : ℕ) (m : List ℕ) (s : State) → ((step_of t n m s).outcome ≡ Ok tt → ⊥)
    → ((step_of t n m s).state ≡ s) × (step_memory t n m s ≡ m)
unfolding step_of step_memory
step_unmade t n m s = go (step_shaped (length m) n s.depth) refl
  where
    go : (b : Bool) → step_shaped (length m) n s.depth ≡ b → ((step_of t n m s).outcome ≡ Ok tt → ⊥)
        → ((step_of t n m s).state ≡ s) × (step_memory t n m s ≡ m)
    go true e h = rw e (unmade m s (intent_of t n m s) (rw e at h))
    go false e h = rw e (refl, refl)

pub unmade_changes_nothing : (t : Technique) (n : ℕ) (m : List ℕ) (s : State) → UnmadeChangesNothing t n m s
unmade_changes_nothing t n m s =
    record { state_same = λ h. (step_unmade t n m s h).0; memory_same = λ h. (step_unmade t n m s h).1 }

pub past_top_stops : (t : Technique) (n : ℕ) (m : List ℕ) (s : State) → PastTopStops t n m s
unfolding load_of store_of effect_of settle_of intent_of after_of memory_after step_of step_memory
past_top_stops t n m s =
    record {
      load = λ p f rd rs w e h. rw (p, lt-ltb _ _ f, e, past p (reg_of s rs + w) h);
      store = λ p f rd rs w e h.
          let outside = past p (reg_of s rd + w) h in
          let none = and-false (leb (store_start t n) (reg_of s rd + w)) in
          (rw (p, lt-ltb _ _ f, e, outside, none), rw (p, lt-ltb _ _ f, e, outside, none));
    }
  where
    past : step_shaped (length m) n s.depth ≡ true → (a : ℕ) → 2 ^ 64 ≤ a → ltb a (length m) ≡ false
    past p a = let q = shaped (length m) n (and_left _ _ p) in past_end m a (omega (arith, q.code_limit, q.data_limit))

-- the count so far is carried along, and no more
if-made-more : (o : Outcome) (r r' x : _) → r ≡ one_more r' → if_made o r (one_more x) ≡ one_more (if_made o r' x)
if-made-more (Ok _) r r' x h = h
if-made-more (Err halt) r r' x h = refl

run_count : (t : Technique) (n k : ℕ) (m : List ℕ) (s : State) (count : ℕ)
    → run_from t n k m s (count + 1) ≡ one_more (run_from t n k m s count)
unfolding run_from
run_count t n zero m s count = refl
run_count t n (suc k) m s count =
    if-made-more (step_of t n m s).outcome _ _ _ (run_count t n k (step_memory t n m s) (step_of t n m s).state (count + 1))

if-made-else : {A : Type 0} (o : Outcome) (a x y : A) → ((o ≡ Ok tt → ⊥) → x ≡ y) → if_made o a x ≡ if_made o a y
if-made-else (Ok _) a x y h = refl
if-made-else (Err halt) a x y h = h (λ e. clash (cc))

step_refused : (t : Technique) (n : ℕ) (m : List ℕ) (s : State) → step_shaped (length m) n s.depth ≡ false
    → step_of t n m s ≡ stepped s (Err (Halt.Refused Refusal.Shape))
unfolding step_of
step_refused t n m s e = rw e

pub step_then_run : (t : Technique) (n : ℕ) (m : List ℕ) (s : State) (k : ℕ) → StepThenRun t n m s k
unfolding run_of run_memory run_from run_memory_from
step_then_run t n m s k = go (step_shaped (length m) n s.depth) refl
  where
    go : (b : Bool) → step_shaped (length m) n s.depth ≡ b → StepThenRun t n m s k
    go true e =
        record {
          answer =
              rw (e, shape_kept t n m s e, run_count t n k (step_memory t n m s) (step_of t n m s).state 0)
              (if-made-else (step_of t n m s).outcome _ _ _ (λ h. rw (step_unmade t n m s h).0));
          memory = rw (e, shape_kept t n m s e) (if-made-else (step_of t n m s).outcome _ _ _ (λ h. (step_unmade t n m s h).1));
        }
    go false e = record { answer = rw (e, step_refused t n m s e); memory = rw (e, step_refused t n m s e) }
