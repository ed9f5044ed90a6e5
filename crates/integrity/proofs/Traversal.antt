-- One walk over a list of calls, for any invariant and any claim about events, with something carried along from event to event: what
-- holds of steps and bus writes holds of runs and of the whole trace. And a run's answer is that of its steps. Both by recursion on what
-- is left of the limit.
use Prim.Native.Nat.{ℕ, zero, suc, ◌+◌}
use mathlib.Core.Path.{◌≡◌, refl, sym, subst}
use mathlib.Core.Bool.{Bool, true, false, cond}
use mathlib.Core.List.{List, [], ◌∷◌, ◌++◌, Memᴰ}
use native.Mathlib.Omega.{arith}
use lib.ListN.{length}
use Rattle.std.specs.Prelude.{Ok, Err}
use Rattle.lists.proofs.Bools.{clash}
use Rattle.answers.specs.declared.Refusal.{Refusal}
use Rattle.isa.specs.declared.Technique.{Technique}
use Rattle.machine.specs.declared.Halt.{Halt}
use Rattle.machine.specs.declared.Ran.{Ran}
use Rattle.machine.specs.Numbers.{Outcome}
use Rattle.machine.specs.Steps.{step_shaped}
use Rattle.machine.specs.Runs.{ran, if_made, run_from, run_memory_from, run_of, run_memory}
use Rattle.integrity.specs.Calls.{
  Call,
  Config,
  config,
  Event,
  outcome_at,
  after_step,
  after_call,
  tried_at,
  steps_of,
  events_of,
  trace,
  steps_made,
  left_by,
  ending_by,
}
use Rattle.integrity.specs.Demand.{RunAnswers, RunIsItsSteps}

-- What is carried along: what it is after an event. No place where the machine stands changes it.
pub record Along (G : Type 0) : Type 0 where
  pub next : G → Event → G
  pub stands : (g : G) (c : Config) → next g (Event.Stands c) ≡ g

-- an invariant that steps and bus writes keep, and a claim that it gives of each event
pub record Carries (t : Technique) (n : ℕ) (G : Type 0) (along : Along G) (Inv : G → Config → Type 0) (Claim : G → Event → Type 0) : Type 0 where
  pub standing : (g : G) (c : Config) → Inv g c → Claim g (Event.Stands c)
  pub stepping : (g : G) (c : Config) → Inv g c → Claim g (tried_at t n c) × Inv (along.next g (tried_at t n c)) (after_step t n c)
  pub data_write : (g : G) (c : Config) (address word : ℕ) → Inv g c → Inv g (after_call t n (Call.WriteData address word) c)
  pub register_write : (g : G) (c : Config) (register word : ℕ) → Inv g c → Inv g (after_call t n (Call.WriteRegister register word) c)

module _ (G : Type 0) (along : Along G) where
  -- what is carried after all these events
  abbrev pub carried : G → List Event → G
  carried g [] = g
  carried g (e ∷ events) = carried (along.next g e) events

  module _ (Claim : G → Event → Type 0) where
    abbrev pub All : G → List Event → Type 0
    All g [] = Unit {0}
    All g (e ∷ events) = Claim g e × All (along.next g e) events

    all_append : (g : G) (xs ys : List Event) → All g xs → All (carried g xs) ys → All g (xs ++ ys)
    all_append g [] ys h k = k
    all_append g (x ∷ xs) ys h k = (h.0, all_append (along.next g x) xs ys h.1 k)

    -- the claim about an event, with what the events before it carry along
    pub all_place : (g : G) (xs ys : List Event) (e : Event) → All g (xs ++ e ∷ ys) → Claim (carried g xs) e
    all_place g [] ys e h = h.0
    all_place g (x ∷ xs) ys e h = all_place (along.next g x) xs ys e h.1

-- what at most k steps leave
abbrev ran_from : Technique → ℕ → ℕ → Config → ℕ → Config
ran_from t n k c count = config (run_from t n k c.memory c.state count).state (run_memory_from t n k c.memory c.state)

module _ (t : Technique) (n : ℕ) (G : Type 0) (along : Along G) (Inv : G → Config → Type 0) (Claim : G → Event → Type 0)
    (carries : Carries t n G along Inv Claim) where
  abbrev Claimed : G → List Event → Type 0
  Claimed g events = All G along Claim g events

  abbrev after : G → List Event → G
  after g events = carried G along g events

  stepped : (k : ℕ) (g : G) (c : Config) (count : ℕ) → Inv g c
      → Claimed g (steps_of t n k c) × Inv (after g (steps_of t n k c)) (ran_from t n k c count)
  unfolding run_from run_memory_from
  stepped zero g c count inv = (tt, inv)
  stepped (suc k) g c count inv =
      let s = carries.stepping g c inv in
      let g' = along.next g (tried_at t n c) in
      let rest = go (outcome_at t n c) g' s.1 (stepped k g' (after_step t n c) (count + 1) s.1) in
      ((s.0, rest.0), rest.1)
    where
      go : (o : Outcome) (g' : G) → Inv g' (after_step t n c)
          → Claimed g' (steps_of t n k (after_step t n c)) × Inv (after g' (steps_of t n k (after_step t n c))) (ran_from t n k (after_step t n c) (count + 1))
          → Claimed g' (if_made o (steps_of t n k (after_step t n c)) [])
          × Inv
          (after g' (if_made o (steps_of t n k (after_step t n c)) []))
          (config
          (if_made o
          (run_from t n k (after_step t n c).memory (after_step t n c).state (count + 1))
          (ran (after_step t n c).state o count)
          ).state
          (if_made o (run_memory_from t n k (after_step t n c).memory (after_step t n c).state) (after_step t n c).memory))
      go (Ok _) g' inv' more = more
      go (Err halt) g' inv' more = (tt, inv')

  called : (call : Call) (g : G) (c : Config) → Inv g c
      → Claimed g (events_of t n call c) × Inv (after g (events_of t n call c)) (after_call t n call c)
  unfolding run_of run_memory
  called Call.Step g c inv = let s = carries.stepping g c inv in ((s.0, tt), s.1)
  called (Call.Run limit) g c inv = go (step_shaped (length c.memory) n c.state.depth)
    where
      go : (b : Bool)
          → Claimed g (cond b (steps_of t n limit c) [])
          × Inv
          (after g (cond b (steps_of t n limit c) []))
          (config
          (cond b (run_from t n limit c.memory c.state 0) (ran c.state (Err (Halt.Refused Refusal.Shape)) 0)).state
          (cond b (run_memory_from t n limit c.memory c.state) c.memory))
      go true = stepped limit g c 0 inv
      go false = (tt, inv)
  called (Call.WriteData address word) g c inv = (tt, carries.data_write g c address word inv)
  called (Call.WriteRegister register word) g c inv = (tt, carries.register_write g c register word inv)

  pub traced : (calls : List Call) (g : G) (c : Config) → Inv g c → Claimed g (trace t n calls c)
  traced [] g c inv = (carries.standing g c inv, tt)
  traced (call ∷ calls) g c inv =
      let s = called call g c inv in
      let rest = all_append G along Claim g (events_of t n call c) _ s.0 (traced calls (after g (events_of t n call c)) (after_call t n call c) s.1) in
      (carries.standing g c inv, subst (λ (h : G). Claimed h (events_of t n call c ++ trace t n calls (after_call t n call c))) (sym (along.stands g c)) rest)

-- nothing carried along: a claim about each event
abbrev pub Alone : Along (Unit {0})
Alone = record { next = λ g e. g; stands = λ g c. refl }

abbrev pub EachOf : (Event → Type 0) → Unit {0} → Event → Type 0
EachOf Claim g e = Claim e

pub all_member : (Claim : Event → Type 0) (g : Unit {0}) (xs : List Event) (e : Event) → All (Unit {0}) Alone (EachOf Claim) g xs
    → Memᴰ e xs → Claim e
all_member Claim g [] e h m = elim m [ ]
all_member Claim g (x ∷ xs) e h (Memᴰ.head q) = rw q h.0
all_member Claim g (x ∷ xs) e h (Memᴰ.tail m) = all_member Claim g xs e h.1 m

-- at most k steps after count of them
abbrev Answers : Technique → ℕ → ℕ → Config → ℕ → Type 0
Answers t n k c count =
    (count + steps_made (steps_of t n k c) ≡ (run_from t n k c.memory c.state count).count)
    × (left_by c (steps_of t n k c) ≡ ran_from t n k c count)
    × (ending_by (Ok tt) (steps_of t n k c) ≡ (run_from t n k c.memory c.state count).ending)

module _ (t : Technique) (n k : ℕ) (c : Config) (count : ℕ) where
  abbrev next : Config
  next = after_step t n c

  abbrev steps : List Event
  steps = steps_of t n k next

  abbrev rest : Outcome → Ran
  rest o = if_made o (run_from t n k next.memory next.state (count + 1)) (ran next.state o count)

  answers_more : (o : Outcome) → Answers t n k next (count + 1)
      → (count + steps_made (Event.Tried c o next ∷ if_made o steps []) ≡ (rest o).count)
      × (left_by next (if_made o steps [])
      ≡ config (rest o).state (if_made o (run_memory_from t n k next.memory next.state) next.memory))
      × (ending_by o (if_made o steps []) ≡ (rest o).ending)
  answers_more (Ok _) more = (omega (arith, more.0), more.1, more.2)
  answers_more (Err halt) more = (omega arith, refl, refl)

run_answers : (t : Technique) (n k : ℕ) (c : Config) (count : ℕ) → Answers t n k c count
unfolding run_from run_memory_from
run_answers t n zero c count = (omega arith, refl, refl)
run_answers t n (suc k) c count =
    answers_more t n k c count (outcome_at t n c) (run_answers t n k (after_step t n c) (count + 1))

pub run_is_its_steps : RunIsItsSteps
unfolding run_of run_memory
run_is_its_steps t n limit c = go (step_shaped (length c.memory) n c.state.depth) refl
  where
    go : (b : Bool) → step_shaped (length c.memory) n c.state.depth ≡ b → RunAnswers t n limit c
    go true e =
        let r = run_answers t n limit c 0 in
        record { count = rw e (omega (arith, r.0)); left = rw e r.1; ending = λ _. rw e r.2 }
    go false e = record { count = rw e; left = rw e; ending = λ f. clash (cc) }
