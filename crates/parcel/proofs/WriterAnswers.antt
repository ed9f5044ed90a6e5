-- The writer's answers, case by case: what number 6 says in numbers, and what follows for each answer.
use mathlib.Core.Path.{◌≡◌, refl, ap, ◌∙◌}
use mathlib.Core.Bool.{Bool, true, false, cond}
use mathlib.Core.List.{List}
use Prim.Native.Nat.{ℕ, ◌%◌, ◌≤◌}
use lib.Dec.{ltb, leb, eqb}
use lib.ListN.{length, take, drop, length-drop}
use lib.Seq.{length-take-le}
use borrow.Author.Tests.{leb-true, eqb-true, ltb-false}
use Rattle.lists.proofs.Bools.{and_left, and_right, clash}
use Rattle.answers.specs.Shape.{memory_shaped, edges_shaped, call_shaped}
use Rattle.answers.specs.declared.Refusal.{Refusal}
use Rattle.answers.specs.declared.Place.{Place}
use Rattle.answers.specs.declared.Fault.{Fault}
use Rattle.answers.specs.Faults.{fault}
use Rattle.std.specs.Prelude.{Option, Some, None, Ok, Err}
use Rattle.answers.proofs.Shape.{shaped}
use Rattle.lists.specs.Places.{shorter, put_over}
use Rattle.lists.specs.Search.{first}
use Rattle.lists.proofs.First.{first_lowest}
use Rattle.graph.specs.Claim.{edge_count}
use Rattle.rising.specs.Rising.{not_rising, first_not_rising}
use Rattle.parcel.specs.Parcel.{Written, parcel_of, written_of, WrittenSo}
use Rattle.parcel.specs.Inner.{WellShaped, size_of, planned_of}
use Rattle.parcel.proofs.Sections.{length_parcel}

-- what number 6 lets through
pub well_shaped : (len n count : ℕ) → call_shaped len n count ≡ true → WellShaped len n count
well_shaped len n count h =
    let m = shaped len n (and_left (memory_shaped len n) (edges_shaped count) h) in
    let e = and_right (memory_shaped len n) (edges_shaped count) h in
    record {
      some_code = m.some_code;
      code_limit = m.code_limit;
      within = m.within;
      data_limit = m.data_limit;
      few = leb-true _ _ (and_right (eqb (count % 2) 0) (leb count 4096) e);
      even = eqb-true _ _ (and_left (eqb (count % 2) 0) (leb count 4096) e);
    }

-- bytes were planned: 18 and 5 let the call through, and they are as many as was answered
pub bytes_planned : (falls short : Bool) (k size : ℕ) (at : Place)
    → Ok k ≡ cond falls (Err (fault Refusal.EdgeNotRising at)) (cond short (Err (fault Refusal.PlaceTooShort Place.Nowhere)) (Ok size))
    → (falls ≡ false) × (short ≡ false) × (k ≡ size)
bytes_planned true short k size at h = clash (cc)
bytes_planned false true k size at h = clash (cc)
bytes_planned false false k size at h = (refl, refl, cc)

pub planned_room : (len n numbers : ℕ) (at : Option ℕ) (w room : ℕ) {k : ℕ} → Ok k ≡ planned_of len n numbers at w room → size_of len n numbers w ≤ room
planned_room len n numbers (Some edge) w room h = clash (cc)
planned_room len n numbers None w room {k} h =
    ltb-false room (size_of len n numbers w) (bytes_planned false (ltb room (size_of len n numbers w)) k (size_of len n numbers w) Place.Nowhere h).1

planned_first : (b : Bool) (edge len n numbers w room : ℕ)
    → planned_of len n numbers (cond b (Some edge) None) w room
    ≡ cond b (Err (fault Refusal.EdgeNotRising (Place.Edge edge)))
    (cond (ltb room (size_of len n numbers w)) (Err (fault Refusal.PlaceTooShort Place.Nowhere)) (Ok (size_of len n numbers w)))
planned_first true edge len n numbers w room = refl
planned_first false edge len n numbers w room = refl

module _ (w : ℕ) (m : List ℕ) (n : ℕ) (g s : List ℕ) where
  abbrev bytes : List ℕ
  bytes = parcel_of w (take n m) g (drop n m)

  module _ (h : call_shaped (length m) n (length g) ≡ true) {at : Option ℕ} (q : at ≡ first (not_rising g) (edge_count g)) where
    size_is : length bytes ≡ size_of (length m) n (length g) w
    size_is =
        let f = well_shaped (length m) n (length g) h in
        length_parcel w (take n m) g (drop n m) ∙ simp (length-take-le n m f.within, length-drop)

    as_planned : {a : Written} → a ≡ planned_of (length m) n (length g) at w (length s)
        → a ≡ written_of (call_shaped (length m) n (length g)) g (shorter s (length bytes)) bytes
    as_planned e =
        rw (h, size_is)
        (e ∙ ap (λ (f : Option ℕ). planned_of (length m) n (length g) f w (length s)) (q ∙ first_lowest (not_rising g) (edge_count g))
        ∙ planned_first (ltb (first_not_rising g) (edge_count g)) (first_not_rising g) (length m) n (length g) w (length s))

    pub not_written : {f : Fault} → Err f ≡ planned_of (length m) n (length g) at w (length s) → WrittenSo w m n g s (Err f) s
    not_written e = record { answers = as_planned e; bytes = refl }

    pub written : {k : ℕ} {s' : List ℕ} → Ok k ≡ planned_of (length m) n (length g) at w (length s) → s' ≡ put_over bytes s
        → WrittenSo w m n g s (Ok k) s'
    written e p = record { answers = as_planned e; bytes = p }
