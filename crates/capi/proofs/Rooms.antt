-- The part of a lent place that a call may use is all of it, or none (`room_of`): what holds in both cases, by cases of the test.
use Prim.Native.Nat.{ℕ}
use mathlib.Core.Path.{◌≡◌, refl}
use mathlib.Core.Bool.{Bool, true, false, cond}
use mathlib.Core.List.{List, [], ◌++◌, append-nil}
use lib.ListN.{length, take, drop}
use lib.Seq.{take-length, drop-length}
use Rattle.std.specs.Prelude.{Result, Err}
use Rattle.answers.specs.declared.Fault.{Fault}

-- what is known of the part before and after the call is known of no word, or of the whole place
pub none_or_all : (Known : List ℕ → List ℕ → Type 0) (Holds : List ℕ → Type 0) (b : Bool) {room : ℕ} {place part : List ℕ}
    → room ≡ cond b 0 (length place) → Known (take room place) part → (b ≡ true → Known [] part → Holds (part ++ place))
    → (b ≡ false → Known place part → Holds part) → Holds (part ++ drop room place)
none_or_all Known Holds true e known none all = rw e (none refl (rw e at known))
none_or_all Known Holds false {place = place} {part = part} e known none all =
    rw (e, drop-length place, append-nil part) (all refl (rw (e, take-length place) at known))

-- a call that answers 5 or another number where a place is too short, as it does where it may use no word: `nowhere` is what is asked of no word
pub record Careful {T : Type 0} (call : Bool → Result T Fault) (nowhere : Bool) : Type 0 where
  pub why : Fault
  pub refuses : call true ≡ Err why
  pub as_short : call nowhere ≡ call true

-- where nothing is put, it does not matter whether there is room for it
pub kept_either : (b : Bool) (l : List ℕ) → cond b l l ≡ l
kept_either true l = refl
kept_either false l = refl
