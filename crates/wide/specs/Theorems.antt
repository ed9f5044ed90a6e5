-- What the header says of the calls on the second edition that are refused: they change nothing then, but for the place of the refusal
-- itself. `proofs/Unchanged.antt` has the proofs.
use Rattle.std.specs.Prelude.{ℕ, ◌≡◌, Bool, List}
use Rattle.parcel.specs.Parcel.{Written}
use Rattle.capi.specs.Parcels.{ReadCall, PutCall}

pub record RefusedWideCallsChangeNothing : Type 0 where
  -- the writer, and the converters
  pub put :
      (call : Bool → Written) (bytes parcel count place : List ℕ) (r : ℕ) (parcel' count' place' : List ℕ)
      → PutCall call bytes parcel count place r parcel' count' place' → (r ≡ 0 → ⊥) → (parcel' ≡ parcel) × (count' ≡ count)
  -- the reader, of either edition
  pub read :
      (w : ℕ) (parcel memory edges counts : List ℕ) (r : ℕ) (memory' edges' counts' : List ℕ)
      → ReadCall w parcel memory edges counts r memory' edges' counts' → (r ≡ 0 → ⊥)
      → (memory' ≡ memory) × (edges' ≡ edges) × (counts' ≡ counts)
