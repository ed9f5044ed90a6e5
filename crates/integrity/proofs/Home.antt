-- Every ret goes home: the addresses on the stack up to its depth, the latest first, are those that the events leave. So a ret, which goes
-- to the latest on the stack, goes to the first of them. Only call and ret touch either; the rest is that the word executed is the checked
-- one (`Steps`).
use Prim.Native.Nat.{ℕ, zero, suc, ◌+◌, ◌-◌, ◌≤◌, ◌<◌}
use mathlib.Core.Path.{◌≡◌, refl, sym, ap, subst}
use mathlib.Core.Bool.{Bool, true, false, cond}
use Rattle.std.specs.Prelude.{Result, Ok, Err}
use mathlib.Core.List.{List, [], ◌∷◌, ◌++◌}
use native.Mathlib.Omega.{arith}
use lib.Dec.{ltb}
use lib.ListN.{length, get_or, set, drop}
use lib.Seq.{get_or-set_same, get_or-set_other}
use borrow.Author.Tests.{ltb-true}
use Rattle.lists.proofs.Bools.{clash}
use Rattle.isa.specs.declared.Instr.{Instr}
use Rattle.isa.specs.declared.Technique.{Technique}
use Rattle.isa.specs.Instructions.{instr_at, is_call, is_ret}
use Rattle.machine.specs.declared.Stop.{Stop}
use Rattle.machine.specs.declared.State.{State}
use Rattle.machine.specs.declared.Effect.{Effect}
use Rattle.machine.specs.declared.Stepped.{Stepped}
use Rattle.machine.specs.Steps.{step_of, next_allowed, stack_places, latest_of, load_of, store_of, call_of, return_of, effect_of, settle_of, next_in, after_of}
use Rattle.machine.specs.Runs.{if_made}
use Rattle.checker.specs.Conditions.{Conditions}
use Rattle.checker.proofs.Equivalence.{accepted_exactly}
use Rattle.integrity.specs.Calls.{Config, Event}
use Rattle.integrity.specs.Demand.{fresh}
use Rattle.integrity.specs.Home.{pending_by, pending_after, pending_from, Latest, ReturnsHome}
use Rattle.integrity.proofs.Steps.{code_word, step_settles, step_good}
use Rattle.integrity.proofs.Demand.{Kept, registers_alone, at_start, after_data, after_register}
use Rattle.integrity.proofs.Traversal.{Along, Carries, all_place, carried, traced}

-- the first `depth` addresses of a stack, the latest first
abbrev latest_first : ℕ → List ℕ → List ℕ
latest_first zero stack = []
latest_first (suc d) stack = get_or stack d 0 ∷ latest_first d stack

-- an address put down is the latest, and those before it stay
below : (stack : List ℕ) (back top d : ℕ) → d ≤ top → latest_first d (set stack top back) ≡ latest_first d stack
below stack back top zero h = refl
below stack back top (suc d) h =
    rw (get_or-set_other stack top d back 0 (λ e. omega (arith, h, e)), below stack back top d (omega (arith, h)))

put_down : (stack : List ℕ) (back depth : ℕ) → depth < length stack
    → latest_first (depth + 1) (set stack depth back) ≡ back ∷ latest_first depth stack
put_down stack back depth h =
    let next : depth + 1 ≡ suc depth = omega arith in
    rw (next, get_or-set_same stack depth back 0 h, below stack back depth depth (omega arith))

taken : (depth : ℕ) (stack : List ℕ) → 0 < depth
    → latest_first depth stack ≡ latest_of depth stack ∷ latest_first (depth - 1) stack
taken zero stack h = clash (omega (arith, h))
taken (suc d) stack h = let same : suc d - 1 ≡ d = omega arith in rw same refl

-- What a step of an instruction says of the addresses pending before it: a ret made goes to the latest, and the stack agrees afterwards.
module _ (t : Technique) (n : ℕ) (m : List ℕ) (s : State) where
  abbrev before : List ℕ
  before = latest_first s.depth s.stack

  record Goes (i : Instr) (e : Result Effect Stop) : Type 0 where
    pub home : (after_of s e).outcome ≡ Ok tt → is_ret i ≡ true → Latest (after_of s e).state.pc before
    pub agrees :
        if_made (after_of s e).outcome (pending_by i s.pc before) before
        ≡ latest_first (after_of s e).state.depth (after_of s e).state.stack

  -- the effect leaves depth and stack as they are
  abbrev quiet : Result Effect Stop → Bool
  quiet (Ok (Effect.Go next)) = true
  quiet (Ok (Effect.SetRegister rd value next)) = true
  quiet (Ok (Effect.PutWord address value next)) = true
  quiet (Ok (Effect.Push back next)) = false
  quiet (Ok (Effect.Pop next)) = false
  quiet (Err stop) = true

  -- an instruction that is no call and no ret
  quietly : (i : Instr) (e : Result Effect Stop) → is_call i ≡ false → is_ret i ≡ false → quiet e ≡ true → Goes i e
  unfolding after_of
  quietly i (Ok (Effect.Go next)) c r q = record { home = λ _ h. clash (cc); agrees = rw (c, r) }
  quietly i (Ok (Effect.SetRegister rd value next)) c r q = record { home = λ _ h. clash (cc); agrees = rw (c, r) }
  quietly i (Ok (Effect.PutWord address value next)) c r q = record { home = λ _ h. clash (cc); agrees = rw (c, r) }
  quietly i (Ok (Effect.Push back next)) c r q = clash (cc)
  quietly i (Ok (Effect.Pop next)) c r q = clash (cc)
  quietly i (Err stop) c r q = record { home = λ made h. clash (cc); agrees = refl }

  -- a stop says nothing
  stopped : (i : Instr) (stop : Stop) → Goes i (Err stop)
  unfolding after_of
  stopped i stop = record { home = λ made h. clash (cc); agrees = refl }

  settled : (i : Instr) (e : Effect) → Goes i (Ok e) → Goes i (settle_of t n (Ok e))
  unfolding settle_of
  settled i e h = go (next_allowed t n (next_in e))
    where
      go : (b : Bool) → Goes i (cond b (Ok e) (Err Stop.Next))
      go true = h
      go false = stopped i Stop.Next

  tested : (i : Instr) (e : Effect) (stop : Stop) (b : Bool) → (b ≡ true → Goes i (Ok e)) → Goes i (settle_of t n (cond b (Ok e) (Err stop)))
  unfolding settle_of
  tested i e stop true h = settled i e (h refl)
  tested i e stop false h = stopped i stop

  plainly : (i : Instr) (e : Effect) → is_call i ≡ false → is_ret i ≡ false → quiet (Ok e) ≡ true → Goes i (settle_of t n (Ok e))
  plainly i e c r q = settled i e (quietly i (Ok e) c r q)

  called : (w : ℕ) → s.depth < length s.stack → Goes (Instr.Call w) (Ok (Effect.Push (s.pc + 1) w))
  unfolding after_of
  called w h = record { home = λ _ e. clash (cc); agrees = sym (put_down s.stack (s.pc + 1) s.depth h) }

  returned : 0 < s.depth → Goes Instr.Ret (Ok (Effect.Pop (latest_of s.depth s.stack)))
  unfolding after_of
  returned h =
      let q = taken s.depth s.stack h in record { home = λ _ _. (latest_first (s.depth - 1) s.stack, q); agrees = ap (drop 1) q }

  illegally : Goes Instr.Illegal (settle_of t n (Err Stop.Illegal))
  unfolding settle_of
  illegally = stopped Instr.Illegal Stop.Illegal

  goes : length s.stack ≡ stack_places → (i : Instr) → Goes i (settle_of t n (effect_of t n m s i))
  unfolding effect_of load_of store_of call_of return_of
  goes size (Instr.Label w) = plainly (Instr.Label w) _ refl refl refl
  goes size (Instr.Add rd rs rt) = plainly (Instr.Add rd rs rt) _ refl refl refl
  goes size (Instr.Addi rd rs w) = plainly (Instr.Addi rd rs w) _ refl refl refl
  goes size (Instr.Movi rd w) = plainly (Instr.Movi rd w) _ refl refl refl
  goes size (Instr.Bgt rs rt w) = plainly (Instr.Bgt rs rt w) _ refl refl refl
  goes size (Instr.Jd w) = plainly (Instr.Jd w) _ refl refl refl
  goes size (Instr.Jmp rs) = plainly (Instr.Jmp rs) _ refl refl refl
  goes size (Instr.Ld rd rs w) = tested (Instr.Ld rd rs w) _ Stop.Access _ (λ _. quietly (Instr.Ld rd rs w) _ refl refl refl)
  goes size (Instr.St rd rs w) = tested (Instr.St rd rs w) _ Stop.Access _ (λ _. quietly (Instr.St rd rs w) _ refl refl refl)
  goes size (Instr.Call w) =
      tested (Instr.Call w) _ Stop.Full (ltb s.depth stack_places) (λ room. called w (omega (arith, size, ltb-true s.depth stack_places room)))
  goes size Instr.Ret = tested Instr.Ret _ Stop.Empty (ltb 0 s.depth) (λ some. returned (ltb-true 0 s.depth some))
  goes size Instr.Illegal = illegally

-- the walk carries the addresses that the events leave
abbrev along : List ℕ → Along (List ℕ)
along code = record { next = pending_after code; stands = λ pending c. refl }

carried_pending : (code pending : List ℕ) (events : List Event) → carried (List ℕ) (along code) pending events ≡ pending_from code pending events
carried_pending code pending [] = refl
carried_pending code pending (e ∷ events) = carried_pending code (pending_after code pending e) events

module _ (t : Technique) (code checked edges : List ℕ) (ok : Conditions t (code ++ checked) (length code) edges) where
  -- the invariant of demand 3, and that the stack agrees with the addresses pending
  abbrev Agrees : List ℕ → Config → Type 0
  Agrees pending c = Kept t code checked edges ok c × (pending ≡ latest_first c.state.depth c.state.stack)

  abbrev HomeOf : List ℕ → Event → Type 0
  HomeOf pending (Event.Stands c) = Unit {0}
  HomeOf pending (Event.Tried before outcome after) =
      outcome ≡ Ok tt → is_ret (instr_at code before.state.pc) ≡ true → Latest after.state.pc pending

  -- what is claimed of a step that answers this, and whether the stack that it leaves agrees
  abbrev HomeStep : List ℕ → Config → Stepped → Type 0
  HomeStep pending c s =
      (s.outcome ≡ Ok tt → is_ret (instr_at code c.state.pc) ≡ true → Latest s.state.pc pending)
      × (if_made s.outcome (pending_by (instr_at code c.state.pc) c.state.pc pending) pending ≡ latest_first s.state.depth s.state.stack)

  step_home : (pending : List ℕ) (c : Config) → Agrees pending c → HomeStep pending c (step_of t (length code) c.memory c.state)
  step_home pending c a =
      let i = instr_at (code ++ checked) c.state.pc in
      let e = settle_of t (length code) (effect_of t (length code) c.memory c.state i) in
      let g = goes t (length code) c.memory c.state a.0.stacked.size i in
      let word = code_word t code checked edges ok c a.0 in
      subst (HomeStep pending c) (sym (step_settles t code checked edges ok c a.0).0) (rw (← word, a.1) (g.home, g.agrees))

  carries : Carries t (length code) (List ℕ) (along code) Agrees HomeOf
  carries =
      record {
        standing = λ pending c a. tt;
        stepping = λ pending c a. let h = step_home pending c a in (h.0, ((step_good t code checked edges ok c a.0).1, h.1));
        data_write = λ pending c address word a. (after_data t code checked edges ok c address word a.0, a.1);
        register_write = λ pending c register word a.
            (after_register t code checked edges ok c register word a.0, rw (registers_alone c.state register word).1 a.1);
      }

pub returns_home : ReturnsHome
returns_home t code checked edges accepted registers data_words count size calls earlier later before after placed ret =
    let ok = accepted_exactly.sound t (code ++ checked) (length code) edges accepted in
    let start = fresh registers code data_words in
    let walk = along code in
    let all = traced t (length code) (List ℕ) walk (Agrees t code checked edges ok) (HomeOf t code checked edges ok) (carries t code checked edges ok) calls
    [] start (at_start t code checked edges ok registers data_words count size, refl) in
    let here = all_place (List ℕ) walk (HomeOf t code checked edges ok) [] earlier later (Event.Tried before (Ok tt) after) (rw placed at all) in
    rw (carried_pending code [] earlier) at (here refl ret)
