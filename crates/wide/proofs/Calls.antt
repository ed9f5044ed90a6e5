-- The converters answer as careful calls do (`capi`): to a place without a byte as to any place that is too short.
use mathlib.Core.Path.{◌≡◌, refl, ap}
use mathlib.Core.Bool.{Bool, true, false}
use mathlib.Core.List.{[]}
use lib.Dec.{ltb}
use lib.ListN.{length}
use Rattle.lists.specs.Places.{shorter}
use Rattle.answers.specs.declared.Refusal.{Refusal}
use Rattle.answers.specs.declared.Place.{Place}
use Rattle.answers.specs.Faults.{fault}
use Rattle.graph.specs.Claim.{edge_count}
use Rattle.parcel.specs.Parcel.{Content, holds, refused, parcel_of}
use Rattle.editions.specs.Converters.{bytes_for, first_wide, widened_of, narrowed_of}
use Rattle.capi.proofs.Rooms.{Careful}
use Rattle.capi.proofs.Parcels.{some_bytes}

pub careful_widen : (x : Content) → Careful (λ short. widened_of short x) (shorter [] (length (bytes_for 4 x)))
careful_widen (holds code edges words) =
    record {
      why = fault Refusal.PlaceTooShort Place.Nowhere;
      refuses = refl;
      as_short = ap (λ (short : Bool). widened_of short (holds code edges words)) (some_bytes 4 code edges words);
    }
careful_widen (refused why) = record { why = fault why Place.Nowhere; refuses = refl; as_short = refl }

pub careful_narrow : (x : Content) → Careful (λ short. narrowed_of short x) (shorter [] (length (bytes_for 2 x)))
careful_narrow (holds code edges words) = go (ltb (first_wide edges) (edge_count edges)) refl
  where
    nowhere : narrowed_of (shorter [] (length (parcel_of 2 code edges words))) (holds code edges words) ≡ narrowed_of true (holds code edges words)
    nowhere = ap (λ (short : Bool). narrowed_of short (holds code edges words)) (some_bytes 2 code edges words)

    go : (found : Bool) → ltb (first_wide edges) (edge_count edges) ≡ found → Careful (λ short. narrowed_of short (holds code edges words)) (shorter [] (length (parcel_of 2 code edges words)))
    go true e = record { why = fault Refusal.EdgeTooWide (Place.Edge (first_wide edges)); refuses = rw e; as_short = nowhere }
    go false e = record { why = fault Refusal.PlaceTooShort Place.Nowhere; refuses = rw e; as_short = nowhere }
careful_narrow (refused why) = record { why = fault why Place.Nowhere; refuses = refl; as_short = refl }
