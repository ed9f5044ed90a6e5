-- Document 02, K3: "Two accepted parcels of one edition with the same code, graph and data are then the same bytes." An edge number
-- has w bytes in the edition: 2 in the first, 4 in the second (K6). `proofs/Canonical.antt` has the proof.
use Rattle.std.specs.Prelude.{ℕ, ◌≡◌, List, ◌++◌, length, Ok}
use Rattle.isa.specs.declared.Technique.{Technique}
use Rattle.checker.specs.Verdicts.{verdict_of}
use Rattle.checker.specs.Conditions.{Listed}
use Rattle.parcel.specs.Parcel.{holds, read_of}
use Rattle.parcel.specs.Theorems.{AllBelow}

-- bytes that are read, as this code, these edges and these data words, and accepted by the technique's checker
pub record AcceptedParcel (w : ℕ) (t : Technique) (bytes code edges words : List ℕ) : Type 0 where
  pub are_bytes : AllBelow 256 bytes
  pub read : read_of w bytes ≡ holds code edges words
  pub accepted : verdict_of t (code ++ words) (length code) edges ≡ Ok tt

-- "the same graph": the same pairs are listed, in whatever sequence and however often
pub record SameGraph (edges edges' : List ℕ) : Type 0 where
  pub there : (j a : ℕ) → Listed edges j a → Listed edges' j a
  pub back : (j a : ℕ) → Listed edges' j a → Listed edges j a

-- the technique may be another for each of the two
abbrev pub AcceptedParcelsCanonical : Type 0
AcceptedParcelsCanonical =
    (w : ℕ) (t t' : Technique) (bytes bytes' code edges edges' words : List ℕ) → AcceptedParcel w t bytes code edges words
    → AcceptedParcel w t' bytes' code edges' words → SameGraph edges edges' → bytes ≡ bytes'
