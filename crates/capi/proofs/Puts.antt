-- The calls that put bytes, from what the function below them answers over the part of the place that it may use: all of it, or none.
use Prim.Native.Nat.{ℕ}
use mathlib.Core.Path.{◌≡◌, ◌∙◌}
use mathlib.Core.Bool.{Bool, true, false, cond, ◌||◌}
use mathlib.Core.List.{List, [], ◌++◌}
use lib.ListN.{length, take, drop}
use Rattle.std.specs.Prelude.{Err}
use Rattle.lists.specs.Places.{shorter}
use Rattle.lists.proofs.Bools.{or_right}
use Rattle.parcel.specs.Parcel.{Written, after_write}
use Rattle.capi.specs.Parcels.{WrittenPut, PutCall}
use Rattle.capi.proofs.Rooms.{Careful, none_or_all, kept_either}

module _ {call : Bool → Written} {bytes p k q : List ℕ} (care : Careful call (shorter [] (length bytes))) where
  none_put : {a : Written} {r : ℕ} {part k' q' : List ℕ} → (shorter q 2 || shorter k 1) ≡ true → a ≡ call (shorter [] (length bytes))
      → part ≡ after_write a bytes [] → WrittenPut a k q r k' q' → PutCall call bytes p k q r (part ++ p) k' q'
  none_put {a} short e f put =
      let is : a ≡ Err care.why = e ∙ care.as_short ∙ care.refuses in
      record {
        answer = put.answer ∙ rw (short, care.refuses, is);
        bytes_after = rw (short, care.refuses, f, is);
        count_after = put.count_after ∙ rw (short, care.refuses, is) (kept_either (shorter k 1) k);
        place_after = put.place_after ∙ rw (short, care.refuses, is);
      }

  all_put : {a : Written} {r : ℕ} {p' k' q' : List ℕ} → (shorter q 2 || shorter k 1) ≡ false → a ≡ call (shorter p (length bytes)) → p' ≡ after_write a bytes p
      → WrittenPut a k q r k' q' → PutCall call bytes p k q r p' k' q'
  all_put room e f put =
      let counted : shorter k 1 ≡ false = or_right (shorter q 2) (shorter k 1) room in
      record {
        answer = put.answer ∙ rw (room, e);
        bytes_after = f ∙ rw (room, e);
        count_after = put.count_after ∙ rw (room, counted, e);
        place_after = put.place_after ∙ rw (room, e);
      }

  pub put_done : {room : ℕ} {a : Written} {r : ℕ} {part k' q' : List ℕ} → room ≡ cond (shorter q 2 || shorter k 1) 0 (length p)
      → a ≡ call (shorter (take room p) (length bytes)) → part ≡ after_write a bytes (take room p) → WrittenPut a k q r k' q'
      → PutCall call bytes p k q r (part ++ drop room p) k' q'
  put_done {room} {a} {r} {part} {k'} {q'} e f g put =
      none_or_all (λ (x y : List ℕ). (a ≡ call (shorter x (length bytes))) × (y ≡ after_write a bytes x)) (λ (x : List ℕ). PutCall call bytes p k q r x k' q')
      (shorter q 2 || shorter k 1) e (f, g) (λ short known. none_put short known.0 known.1 put) (λ room known. all_put room known.0 known.1 put)
