-- What the header says of the call: where it answers another number than 0, path and count are as they were, and its 258 says that no path
-- leads to the address. `proofs/Told.antt` has the proofs.
use Rattle.std.specs.Prelude.{ℕ, ◌≡◌, List, None, Ok}
use Rattle.paths.specs.Shortest.{Shortest}
use Rattle.capi.specs.States.{technique_of}
use Rattle.manager.specs.Calls.{path_room, PathCall}

pub record PathAnswersTold : Type 0 where
  pub nothing_put :
      (technique : ℕ) (memory : List ℕ) (n : ℕ) (edges : List ℕ) (address : ℕ) (path count place : List ℕ) (r : ℕ) (path' count' place' : List ℕ)
      → PathCall technique memory n edges address path count place r path' count' place' → (r ≡ 0 → ⊥)
      → (path' ≡ path) × (count' ≡ count)
  pub unreachable :
      (technique : ℕ) (memory : List ℕ) (n : ℕ) (edges : List ℕ) (address : ℕ) (path count place : List ℕ) (r : ℕ) (path' count' place' : List ℕ)
      → PathCall technique memory n edges address path count place r path' count' place' → r ≡ 258
      → Shortest (technique_of technique) memory n edges address (path_room path count place) (Ok None)
