-- What "unreachable" says of runs (document 02, K9). `proofs/Arrivals.antt` has the proof.
use Rattle.std.specs.Prelude.{ℕ, ◌≡◌, ◌≢◌, length, None, Ok}
use mathlib.Core.List.{List, ◌++◌, Memᴰ}
use Rattle.isa.specs.declared.Technique.{Technique}
use Rattle.integrity.specs.Calls.{Call, Event, trace}
use Rattle.integrity.specs.Demand.{fresh}
use Rattle.paths.specs.Shortest.{Shortest}

-- the machine does not stand at the address, and no step arrives there
abbrev pub Absent : ℕ → Event → Type 0
Absent address (Event.Stands c) = c.state.pc ≢ address
Absent address (Event.Tried before outcome after) = (before.state.pc ≢ address) × (after.state.pc ≢ address)

-- "No run of that program started at address 0, under any bus writes, then arrives there": where the answer is unreachable, the pc is
-- nowhere at the address in any list of steps, runs and bus writes from a fresh state, over the code with any data words as many after it.
abbrev pub NeverArrives : Type 0
NeverArrives =
    (t : Technique) (code checked edges : List ℕ) (address room : ℕ)
    → Shortest t (code ++ checked) (length code) edges address room (Ok None)
    → (registers data_words : List ℕ) → length registers ≡ 32 → length data_words ≡ length checked → (calls : List Call)
    → (e : Event) → Memᴰ e (trace t (length code) calls (fresh registers code data_words)) → Absent address e
