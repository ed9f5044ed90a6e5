-- K8 (document 02): "For an accepted program every ret made goes to the word after the latest call not yet returned from, whatever the
-- bus writes." Told from the steps made, and from the checked words at their pcs: nothing here looks at the stack of a state.
use Rattle.std.specs.Prelude.{ℕ, ◌+◌, ◌≡◌, true, cond, length, drop, Ok}
use mathlib.Core.List.{List, [], ◌∷◌, ◌++◌}
use Rattle.isa.specs.declared.Instr.{Instr}
use Rattle.isa.specs.declared.Technique.{Technique}
use Rattle.isa.specs.Instructions.{instr_at, is_call, is_ret}
use Rattle.machine.specs.Runs.{if_made}
use Rattle.checker.specs.Verdicts.{verdict_of}
use Rattle.integrity.specs.Calls.{Call, Config, Event, trace}
use Rattle.integrity.specs.Demand.{fresh}

-- The words after the calls not yet returned from, the latest first: a step made at p by this instruction adds p + 1 where it is a call,
-- and takes the latest away where it is a ret.
abbrev pub pending_by : Instr → ℕ → List ℕ → List ℕ
pending_by i p pending = cond (is_call i) ((p + 1) ∷ pending) (cond (is_ret i) (drop 1 pending) pending)

abbrev pub pending_after : List ℕ → List ℕ → Event → List ℕ
pending_after code pending (Event.Stands c) = pending
pending_after code pending (Event.Tried before outcome after) =
    if_made outcome (pending_by (instr_at code before.state.pc) before.state.pc pending) pending

-- after all these events, of which the first comes first
abbrev pub pending_from : List ℕ → List ℕ → List Event → List ℕ
pending_from code pending [] = pending
pending_from code pending (e ∷ events) = pending_from code (pending_after code pending e) events

-- it is the latest of them
abbrev pub Latest : ℕ → List ℕ → Type 0
Latest q pending = (others : List ℕ) × (pending ≡ q ∷ others)

-- Over an accepted program, in every list of steps, runs and bus writes from a fresh state: where a ret is made, at any place of the
-- trace, the pc after it is the latest that the events before it leave. So there is one.
abbrev pub ReturnsHome : Type 0
ReturnsHome =
    (t : Technique) (code checked edges : List ℕ) → verdict_of t (code ++ checked) (length code) edges ≡ Ok tt
    → (registers data_words : List ℕ) → length registers ≡ 32 → length data_words ≡ length checked → (calls : List Call)
    → (earlier later : List Event) (before after : Config)
    → trace t (length code) calls (fresh registers code data_words) ≡ earlier ++ Event.Tried before (Ok tt) after ∷ later
    → is_ret (instr_at code before.state.pc) ≡ true
    → Latest after.state.pc (pending_from code [] earlier)
