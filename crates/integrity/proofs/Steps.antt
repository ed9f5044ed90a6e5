-- Each step tried is as demand 3 claims, and keeps the invariant: what the figures do with each instruction, then each kind of effect.
use Prim.Native.Nat.{ℕ, ◌+◌, ◌-◌, ◌≤◌, ◌<◌}
use mathlib.Core.Path.{◌≡◌, refl, sym, ap, subst, ◌∙◌}
use mathlib.Core.Logic.{inl, inr}
use mathlib.Core.Bool.{Bool, true, false, cond, or-true}
use Rattle.std.specs.Prelude.{Some, Result, Ok, Err}
use mathlib.Core.List.{List, ◌++◌}
use native.Mathlib.Omega.{arith}
use native.Mathlib.Decide.{dec_lt}
use lib.Dec.{ltb, eqb}
use lib.ListN.{length, get_or, set, take, length-set, get_or-append}
use lib.Seq.{get_or-take, get_or-set_same, get_or-set_other, take-set-le, take-append_seam}
use borrow.Author.Tests.{ltb-false, lt-ltb, ltb-true, leb-true, le-leb, eq-eqb}
use Rattle.lists.proofs.Bools.{clash, and_left, both_true, true_false}
use Rattle.isa.specs.declared.Instr.{Instr}
use Rattle.isa.specs.declared.Technique.{Technique}
use Rattle.isa.specs.Words.{decode_of}
use Rattle.isa.specs.Instructions.{instr_at, branch_target, is_jump, is_load, is_call}
use Rattle.addresses.specs.Addresses.{address_of}
use Rattle.machine.specs.declared.Stop.{Stop}
use Rattle.machine.specs.declared.Effect.{Effect}
use Rattle.machine.specs.declared.Stepped.{Stepped}
use Rattle.machine.specs.declared.State.{State}
use Rattle.machine.specs.Numbers.{Number, stop_number}
use Rattle.machine.specs.Steps.{fetch_end, next_allowed, reg_of, stack_places, state_of, step_shaped, latest_of, load_of, store_of, call_of, return_of, effect_of, settle_of, intent_of, after_of, memory_after, storable, step_of, step_memory}
use Rattle.graph.specs.Claim.{id_of, is_return, successor_by, is_successor}
use Rattle.graph.proofs.Returns.{return_of_call, ret_successor}
use Rattle.graph.proofs.CodeWords.{return_code}
use Rattle.checker.specs.Conditions.{Conditions}
use Rattle.checker.proofs.Listed.{listed_edge}
use Rattle.integrity.specs.Calls.{Config, config, tried_at, after_step}
use Rattle.integrity.specs.Demand.{StopAllowed, StepHeld, Held}
use Rattle.guards.proofs.Replay.{view, view_set, Falls, Fallen}
use Rattle.integrity.proofs.Inside.{Inside, Stacked, Inv, inside_no_label, inside_no_return}
use Rattle.integrity.proofs.Keeps.{
  word_same,
  in_bounds,
  not_inner,
  sizes,
  return_in,
  fallen_next,
  jump_aims,
  jump_lands,
  store_here,
}

-- what the figures do with an instruction, told by the effect: it falls through, branches, jumps, calls, returns or stops
data Told (t : Technique) (code memory edges : List ℕ) (c : Config) (i : Instr) : Result Effect Stop → Type 0 where
  goes : successor_by code (length code) edges i c.state.pc (c.state.pc + 1) ≡ true
      → Falls memory (length code) i (λ x. x ≡ view c.state.regs) (view c.state.regs)
      → Told t code memory edges c i (Ok (Effect.Go (c.state.pc + 1)))
  sets : (rd value : ℕ) → successor_by code (length code) edges i c.state.pc (c.state.pc + 1) ≡ true
      → Falls memory (length code) i (λ x. x ≡ view (set c.state.regs rd value)) (view c.state.regs)
      → Told t code memory edges c i (Ok (Effect.SetRegister rd value (c.state.pc + 1)))
  puts : (address value : ℕ) → length code ≤ address → successor_by code (length code) edges i c.state.pc (c.state.pc + 1) ≡ true
      → Falls memory (length code) i (λ x. x ≡ view c.state.regs) (view c.state.regs)
      → Told t code memory edges c i (Ok (Effect.PutWord address value (c.state.pc + 1)))
  branches : (w : ℕ) → branch_target i ≡ Some w → successor_by code (length code) edges i c.state.pc w ≡ true → Told t code memory edges c i (Ok (Effect.Go w))
  jumps : (rs : ℕ) → i ≡ Instr.Jmp rs → Told t code memory edges c i (Ok (Effect.Go (reg_of c.state rs)))
  calls : (w : ℕ) → i ≡ Instr.Call w → c.state.depth < stack_places → Told t code memory edges c i (Ok (Effect.Push (c.state.pc + 1) w))
  returns : i ≡ Instr.Ret → 0 < c.state.depth → Told t code memory edges c i (Ok (Effect.Pop (latest_of c.state.depth c.state.stack)))
  stops : (stop : Stop) → StopAllowed t code c.state.pc (Number.Stopped (stop_number stop)) → Told t code memory edges c i (Err stop)

same : (x : ℕ) → eqb x x ≡ true
same x = eq-eqb x x refl

-- of plain stops only 4 is restricted
abbrev number_in : Number → ℕ
number_in Number.None = 0
number_in (Number.Stopped k) = k
number_in (Number.Refused k) = k

not_four : (code : List ℕ) (pc number : ℕ) → (number ≡ 4 → ⊥) → StopAllowed Technique.Plain code pc (Number.Stopped number)
not_four code pc number h = λ four. absurd (h (ap number_in four))

-- stops 2, 3, 5 and 6
at_illegal : (t : Technique) (code : List ℕ) (pc : ℕ) → StopAllowed t code pc (Number.Stopped 2)
at_illegal Technique.Plain code pc = not_four code pc 2 (λ e. clash (cc))
at_illegal Technique.MemoryGuards code pc = inl refl

at_load : (t : Technique) (code : List ℕ) (pc : ℕ) → is_load (instr_at code pc) ≡ true → StopAllowed t code pc (Number.Stopped 3)
at_load Technique.Plain code pc e = not_four code pc 3 (λ e. clash (cc))
at_load Technique.MemoryGuards code pc e = inr (inl (refl, e))

at_full : (t : Technique) (code : List ℕ) (pc : ℕ) → StopAllowed t code pc (Number.Stopped 5)
at_full Technique.Plain code pc = not_four code pc 5 (λ e. clash (cc))
at_full Technique.MemoryGuards code pc = inr (inr (inl refl))

at_empty : (t : Technique) (code : List ℕ) (pc : ℕ) → StopAllowed t code pc (Number.Stopped 6)
at_empty Technique.Plain code pc = not_four code pc 6 (λ e. clash (cc))
at_empty Technique.MemoryGuards code pc = inr (inr (inr refl))

-- stop 4 is for plain steps only, at a jmp
at_jump : (t : Technique) (code : List ℕ) (pc n q : ℕ) → is_jump (instr_at code pc) ≡ true → next_allowed t n q ≡ false
    → StopAllowed t code pc (Number.Stopped 4)
at_jump Technique.Plain code pc n q e out = λ _. e
at_jump Technique.MemoryGuards code pc n q e out = clash (cc)

in-code-allowed : (t : Technique) (n q : ℕ) → q < n → next_allowed t n q ≡ true
in-code-allowed Technique.Plain n q h = lt-ltb q n h
in-code-allowed Technique.MemoryGuards n q h = refl

fetch_reaches : (t : Technique) (n len pc : ℕ) → pc < n → n ≤ len → ltb pc (fetch_end t n len) ≡ true
fetch_reaches Technique.Plain n len pc h l = lt-ltb pc n h
fetch_reaches Technique.MemoryGuards n len pc h l = lt-ltb pc len (omega arith)

module _ (t : Technique) (code checked edges : List ℕ) (ok : Conditions t (code ++ checked) (length code) edges) (c : Config)
    (inv : Inv t (code ++ checked) (length code) edges c) where
  abbrev pc : ℕ
  pc = c.state.pc

  abbrev regs : List ℕ
  regs = c.state.regs

  abbrev memory : List ℕ
  memory = code ++ checked

  abbrev n : ℕ
  n = length code

  abbrev reg : ℕ → ℕ
  reg r = reg_of c.state r

  abbrev Tells : Instr → Result Effect Stop → Type 0
  Tells i e = Told t code memory edges c i e

  abbrev depth : ℕ
  depth = c.state.depth

  abbrev stack : List ℕ
  stack = c.state.stack

  abbrev Stays : List ℕ → ℕ → Type 0
  Stays stack' depth' = Stacked memory n stack' depth'

  -- a step made that leaves this state and this memory is as claimed, and keeps the invariant
  abbrev Made : State → List ℕ → Type 0
  Made s m' = StepHeld t code edges c (Ok tt) (config s m') × Inv t memory n edges (config s m')

  -- to q, with these registers and the same stack
  abbrev MadeTo : ℕ → List ℕ → List ℕ → Type 0
  MadeTo q regs' m' = Made (state_of regs' q depth stack) m'

  pub code_word : instr_at memory pc ≡ instr_at code pc
  code_word = ap decode_of (get_or-append code checked 0 pc inv.in_code)

  loads : (rd rs w : ℕ) → instr_at memory pc ≡ Instr.Ld rd rs w
      → Tells (Instr.Ld rd rs w) (load_of c.memory rd (address_of (reg rs) w) (pc + 1))
  unfolding load_of
  loads rd rs w e = go (ltb (address_of (reg rs) w) (length c.memory))
    where
      found : rs < 3 → get_or (view regs) rs 0 + w < n
          → get_or c.memory (address_of (reg rs) w) 0 ≡ get_or memory (get_or (view regs) rs 0 + w) 0
      found h q =
          let s = get_or-take 3 regs rs 0 h in
          rw s (word_same c.memory memory n (reg rs + w) inv.code_same (omega arith))

      go : (b : Bool)
          → Tells (Instr.Ld rd rs w)
          (cond b (Ok (Effect.SetRegister rd (get_or c.memory (address_of (reg rs) w) 0) (pc + 1))) (Err Stop.Access))
      go true = sets rd _ (same (pc + 1)) (_, found, view_set regs rd _)
      go false = stops Stop.Access (at_load t code pc (ap is_load (sym code_word ∙ e)))

  -- a store goes to data: plain, by the step's own test; with memory guards, by its guard, and then it is made
  stores : (u : Technique) → t ≡ u → (rd rs w : ℕ) → instr_at memory pc ≡ Instr.St rd rs w → (b : Bool)
      → storable u n c.memory (address_of (reg rd) w) ≡ b
      → Tells (Instr.St rd rs w)
      (cond b (Ok (Effect.PutWord (address_of (reg rd) w) (reg rs) (pc + 1))) (Err Stop.Access))
  stores Technique.Plain u rd rs w e true p = puts _ _ (leb-true n _ (and_left _ _ p)) (same (pc + 1)) refl
  stores Technique.Plain u rd rs w e false p = stops Stop.Access (rw u (not_four code pc 3 (λ e. clash (cc))))
  stores Technique.MemoryGuards u rd rs w e true p = puts _ _ (store_here t memory n edges ok c inv u rd rs w e).0 (same (pc + 1)) refl
  stores Technique.MemoryGuards u rd rs w e false p =
      let h = store_here t memory n edges ok c inv u rd rs w e in
      let a = address_of (reg rd) w in
      absurd
      (true_false
      (both_true (le-leb 0 a (omega arith)) (lt-ltb a (length c.memory) (omega (arith, h.1, inv.size_same))))
      p)

  -- a call where the stack has room, a ret where it has an address
  called : (w : ℕ) (b : Bool) → ltb depth stack_places ≡ b → Tells (Instr.Call w) (cond b (Ok (Effect.Push (pc + 1) w)) (Err Stop.Full))
  called w true p = calls w refl (ltb-true depth stack_places p)
  called w false p = stops Stop.Full (at_full t code pc)

  returned : (b : Bool) → ltb 0 depth ≡ b → Tells Instr.Ret (cond b (Ok (Effect.Pop (latest_of depth stack))) (Err Stop.Empty))
  returned true p = returns refl (ltb-true 0 depth p)
  returned false p = stops Stop.Empty (at_empty t code pc)

  told : (i : Instr) → instr_at memory pc ≡ i → Tells i (effect_of t n c.memory c.state i)
  unfolding effect_of store_of call_of return_of
  told (Instr.Label w) e = goes (same (pc + 1)) refl
  told (Instr.Add rd rs rt) e = sets rd _ (same (pc + 1)) (_, view_set regs rd _)
  told (Instr.Addi rd rs w) e = sets rd _ (same (pc + 1)) (_, view_set regs rd _)
  told (Instr.Movi rd w) e = sets rd w (same (pc + 1)) (view_set regs rd w)
  told (Instr.Bgt rs rt w) e = go (ltb (reg rt) (reg rs)) refl
    where
      go : (b : Bool) → ltb (reg rt) (reg rs) ≡ b → Tells (Instr.Bgt rs rt w) (Ok (Effect.Go (cond b w (pc + 1))))
      go true p = branches w refl (rw (same w) (or-true (eqb w (pc + 1))))
      go false p =
          goes
          (rw (same (pc + 1)))
          ((λ h k. rw (get_or-take 3 regs rs 0 h, get_or-take 3 regs rt 0 k) (ltb-false (reg rt) (reg rs) p)), refl)
  told (Instr.Jd w) e = branches w refl (same w)
  told (Instr.Jmp rs) e = jumps rs refl
  told (Instr.Ld rd rs w) e = loads rd rs w e
  told (Instr.St rd rs w) e = stores t refl rd rs w e _ refl
  told (Instr.Call w) e = called w _ refl
  told Instr.Ret e = returned _ refl
  told Instr.Illegal e = stops Stop.Illegal (at_illegal t code pc)

  abbrev after : Result Effect Stop → Config
  after e = config (after_of c.state e).state (memory_after c.memory e)

  abbrev Good : Result Effect Stop → Type 0
  Good e = StepHeld t code edges c (after_of c.state e).outcome (after e) × Inv t memory n edges (after e)

  kept_code : (m : List ℕ) → take n m ≡ take n memory → take n m ≡ code
  kept_code m e = e ∙ take-append_seam code checked

  stop_good : (stop : Stop) → StopAllowed t code pc (Number.Stopped (stop_number stop)) → Good (Err stop)
  unfolding after_of memory_after
  stop_good stop a = (
    record {
      lands_on_edge = λ e. clash (cc);
      stop_allowed = λ _. a;
      stop_changes_nothing = λ _. refl;
      code_same = kept_code c.memory inv.code_same;
    },
    inv,
  )

  -- a step made to q, with what it leaves
  made_good : (i : Instr) → instr_at memory pc ≡ i → (s : State) (m' : List ℕ) → s.pc < n
      → successor_by code n edges i pc s.pc ≡ true
      → take n m' ≡ take n memory → length m' ≡ length memory → length s.regs ≡ 32 → Stays s.stack s.depth
      → ((p : Inside t memory n edges s.pc) → Fallen memory n p.ends.first p.offset (view s.regs))
      → Made s m'
  unfolding is_successor
  made_good i here s m' to by kept size count stacked fallen = (
    record {
      lands_on_edge = λ _.
          both_true (lt-ltb pc n inv.in_code) (both_true (lt-ltb s.pc n to) (rw (← code_word, here) by));
      stop_allowed = λ no_stop. absurd (no_stop refl);
      stop_changes_nothing = λ no_stop. absurd (no_stop refl);
      code_same = kept_code m' kept;
    },
    record { code_same = kept; size_same = size; registers = count; in_code = to; stacked = stacked; fallen = fallen },
  )

  -- the last word is illegal, so nothing falls off the code
  falls_in : (i : Instr) → instr_at memory pc ≡ i → successor_by code n edges i pc (pc + 1) ≡ true → pc + 1 < n
  falls_in i here by = go (dec_lt (pc + 1) n)
    where
      go : Dec (pc + 1 < n) → pc + 1 < n
      go (yes h) = h
      go (no h) =
          let last : n - 1 ≡ pc = omega (arith, inv.in_code) in
          let illegal : i ≡ Instr.Illegal = sym here ∙ ap (instr_at memory) (sym last) ∙ ok.instrumented.last_illegal in
          let none : successor_by code n edges i pc (pc + 1) ≡ false = ap (λ (j : Instr). successor_by code n edges j pc (pc + 1)) illegal in
          absurd (true_false by none)

  -- falling through with registers regs' and memory m'
  falls_good : (i : Instr) → instr_at memory pc ≡ i → (regs' m' : List ℕ) → successor_by code n edges i pc (pc + 1) ≡ true
      → take n m' ≡ take n memory → length m' ≡ length memory → length regs' ≡ 32
      → Falls memory n i (λ x. x ≡ view regs') (view regs)
      → MadeTo (pc + 1) regs' m'
  falls_good i here regs' m' by kept size count falls =
      made_good i here (state_of regs' (pc + 1) depth stack) m' (falls_in i here by) by kept size count inv.stacked
      (fallen_next t memory n edges ok c inv (view regs') (rw here falls))

  -- a branch stays in code, and lands inside no guard
  branch_in : (i : Instr) → instr_at memory pc ≡ i → (w : ℕ) → branch_target i ≡ Some w → w < n
  branch_in i here w b = ok.instrumented.targets_in_code pc w inv.in_code (ap branch_target here ∙ b)

  branch_good : (i : Instr) → instr_at memory pc ≡ i → (w : ℕ) → branch_target i ≡ Some w → successor_by code n edges i pc w ≡ true
      → (depth' : ℕ) (stack' : List ℕ) → Stays stack' depth'
      → Made (state_of regs w depth' stack') c.memory
  branch_good i here w b by depth' stack' stacked =
      let out = ok.instrumented.targets_outside_guards pc w inv.in_code (ap branch_target here ∙ b) in
      made_good i here (state_of regs w depth' stack') c.memory (branch_in i here w b) by inv.code_same inv.size_same inv.registers stacked
      (λ p. absurd
      (not_inner t memory n edges w out.0 out.1 p.last p.slots p.in_code p.guard
      (record {
        ends = p.ends;
        after_first = omega (arith, p.here, p.past);
        up_to_last = omega (arith, p.here, p.within, p.ends.last);
      })))

  -- a jump lands on a label of its own set, so inside no guard
  jump_good : (rs : ℕ) → instr_at memory pc ≡ Instr.Jmp rs → next_allowed t n (reg rs) ≡ true
      → MadeTo (reg rs) regs c.memory
  jump_good rs here next =
      let q = reg rs in
      let to : q < n = in_bounds t n q next (jump_aims t memory n edges ok c inv rs here) in
      let lands = jump_lands t memory n edges ok c inv rs here to in
      made_good (Instr.Jmp rs) here (state_of regs q depth stack) c.memory to (listed_edge edges pc q lands.1) inv.code_same inv.size_same
      inv.registers inv.stacked (λ p. absurd (inside_no_label t memory n edges q (id_of edges n pc) p lands.0))

  -- a call puts down the word after it, which is the word after a call of the code
  pushed : (w : ℕ) → instr_at memory pc ≡ Instr.Call w → depth < stack_places → Stays (set stack depth (pc + 1)) (depth + 1)
  pushed w here room =
      record {
        size = length-set stack depth (pc + 1) ∙ inv.stacked.size;
        limit = omega (arith, room);
        homes = λ k l. go k l (dec_lt k depth);
      }
    where
      go : (k : ℕ) → k < depth + 1 → Dec (k < depth) → is_return memory n (get_or (set stack depth (pc + 1)) k 0) ≡ true
      go k l (yes h) =
          rw (get_or-set_other stack depth k (pc + 1) 0 (λ e. omega (arith, h, e))) (inv.stacked.homes k h)
      go k l (no h) =
          let latest : k ≡ depth = omega (arith, l, h) in
          let there : depth < length stack = omega (arith, room, inv.stacked.size) in
          rw (latest, get_or-set_same stack depth (pc + 1) 0 there) (return_of_call memory n pc inv.in_code (ap is_call here))

  -- a ret takes the latest of them
  popped : Stays stack (depth - 1)
  popped =
      record { size = inv.stacked.size; limit = omega (arith, inv.stacked.limit); homes = λ k l. inv.stacked.homes k (omega (arith, l)) }

  latest_home : 0 < depth → is_return memory n (latest_of depth stack) ≡ true
  latest_home some = inv.stacked.homes (depth - 1) (omega (arith, some))

  -- a ret stays in code, and lands inside no guard
  return_good : instr_at memory pc ≡ Instr.Ret → 0 < depth → Made (state_of regs (latest_of depth stack) (depth - 1) stack) c.memory
  return_good here some =
      let q = latest_of depth stack in
      let home = latest_home some in
      made_good Instr.Ret here (state_of regs q (depth - 1) stack) c.memory (return_in t memory n edges ok c inv q home) (ret_successor code n edges pc q (sym (return_code code checked q) ∙ home)) inv.code_same
      inv.size_same inv.registers popped (λ p. absurd (inside_no_return t memory n edges q p home))

  -- an effect whose next pc is in code is not stopped
  unstopped : (e : Effect) (q : ℕ) → q < n → Good (Ok e) → Good (cond (next_allowed t n q) (Ok e) (Err Stop.Next))
  unstopped e q to good = rw (in-code-allowed t n q to) good

  -- stop 4, or the jump
  jumped : (rs : ℕ) → instr_at memory pc ≡ Instr.Jmp rs → (b : Bool) → next_allowed t n (reg rs) ≡ b
      → Good (cond b (Ok (Effect.Go (reg rs))) (Err Stop.Next))
  unfolding after_of memory_after
  jumped rs here true p = jump_good rs here p
  jumped rs here false p = stop_good Stop.Next (at_jump t code pc n (reg rs) (ap is_jump (sym code_word ∙ here)) p)

  told_good : (i : Instr) → instr_at memory pc ≡ i → (e : Result Effect Stop) → Tells i e → Good (settle_of t n e)
  unfolding settle_of after_of memory_after
  told_good i here _ (goes by falls) =
      unstopped (Effect.Go (pc + 1)) (pc + 1) (falls_in i here by)
      (falls_good i here regs c.memory by inv.code_same inv.size_same inv.registers falls)
  told_good i here _ (sets rd value by falls) =
      unstopped (Effect.SetRegister rd value (pc + 1)) (pc + 1) (falls_in i here by)
      (falls_good i here (set regs rd value) c.memory by inv.code_same inv.size_same
      (length-set regs rd value ∙ inv.registers) falls)
  told_good i here _ (puts address value high by falls) =
      unstopped (Effect.PutWord address value (pc + 1)) (pc + 1) (falls_in i here by)
      (falls_good i here regs (set c.memory address value) by
      (take-set-le n c.memory address value high ∙ inv.code_same)
      (length-set c.memory address value ∙ inv.size_same)
      inv.registers falls)
  told_good i here _ (branches w b by) = unstopped (Effect.Go w) w (branch_in i here w b)
      (branch_good i here w b by depth stack inv.stacked)
  told_good i here _ (jumps rs e) = jumped rs (here ∙ e) _ refl
  told_good i here _ (calls w e room) =
      let call = here ∙ e in
      unstopped (Effect.Push (pc + 1) w) w (branch_in (Instr.Call w) call w refl)
      (branch_good (Instr.Call w) call w refl (same w) (depth + 1) (set stack depth (pc + 1)) (pushed w call room))
  told_good i here _ (returns e some) =
      let q = latest_of depth stack in
      unstopped (Effect.Pop q) q (return_in t memory n edges ok c inv q (latest_home some)) (return_good (here ∙ e) some)
  told_good i here _ (stops stop a) = stop_good stop a

  fetched : ltb pc (fetch_end t n (length c.memory)) ≡ true
  fetched = fetch_reaches t n (length c.memory) pc inv.in_code (omega (arith, (sizes t memory n edges ok c inv).within, inv.size_same))

  checked_word : instr_at c.memory pc ≡ instr_at memory pc
  checked_word = ap decode_of (word_same c.memory memory n pc inv.code_same inv.in_code)

  settled_good : Good (settle_of t n (effect_of t n c.memory c.state (instr_at memory pc)))
  settled_good = told_good (instr_at memory pc) refl _ (told (instr_at memory pc) refl)

  -- the step is what the checked word does
  pub step_settles :
      (step_of t n c.memory c.state ≡ after_of c.state (settle_of t n (effect_of t n c.memory c.state (instr_at memory pc))))
      × (step_memory t n c.memory c.state ≡ memory_after c.memory (settle_of t n (effect_of t n c.memory c.state (instr_at memory pc))))
  unfolding step_of step_memory intent_of
  step_settles =
      let shape : step_shaped (length c.memory) n depth ≡ true =
      both_true (rw inv.size_same (and_left _ _ ok.shape)) (le-leb depth stack_places inv.stacked.limit) in
      (rw (shape, fetched, checked_word), rw (shape, fetched, checked_word))

  -- a step that answers this and leaves this memory is as claimed, and keeps the invariant
  abbrev GoodStep : Stepped → List ℕ → Type 0
  GoodStep s m' = StepHeld t code edges c s.outcome (config s.state m') × Inv t memory n edges (config s.state m')

  pub step_good : Held t code edges (tried_at t n c) × Inv t memory n edges (after_step t n c)
  step_good =
      let e = settle_of t n (effect_of t n c.memory c.state (instr_at memory pc)) in
      subst (λ (s : Stepped). GoodStep s (step_memory t n c.memory c.state)) (sym step_settles.0)
      (subst (λ (m' : List ℕ). GoodStep (after_of c.state e) m') (sym step_settles.1) settled_good)
