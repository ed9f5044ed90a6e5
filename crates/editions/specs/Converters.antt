-- What the converters answer, and what they leave (document 02, K6). "Converters keep edges as listed, without testing 18."
use Rattle.std.specs.Prelude.{ℕ, ◌≡◌, Bool, cond, ◌||◌, List, [], length, leb, ltb}
use Rattle.lists.specs.Search.{lowest}
use Rattle.lists.specs.Places.{shorter}
use Rattle.answers.specs.declared.Refusal.{Refusal}
use Rattle.answers.specs.declared.Place.{Place}
use Rattle.answers.specs.Faults.{fault}
use Rattle.std.specs.Prelude.{Ok, Err}
use Rattle.graph.specs.Claim.{edge_count, jump_of, target_of}
use Rattle.parcel.specs.Parcel.{Written, Content, holds, refused, read_of, parcel_of, after_write}

-- what bytes hold, as the bytes of an edition whose edge numbers have w bytes
abbrev pub bytes_for : ℕ → Content → List ℕ
bytes_for w (holds code edges words) = parcel_of w code edges words
bytes_for w (refused why) = []

-- an "address above 65,535" in edge k
abbrev pub is_wide : List ℕ → ℕ → Bool
is_wide edges k = leb 65536 (jump_of edges k) || leb 65536 (target_of edges k)

-- the first such edge, or the number of edges where there is none
abbrev pub first_wide : List ℕ → ℕ
first_wide edges = lowest (is_wide edges) (edge_count edges)

-- the reader's 1 to 4, then 5, where a place that is lent is too short
abbrev pub widened_of : Bool → Content → Written
widened_of short (holds code edges words) =
    cond short (Err (fault Refusal.PlaceTooShort Place.Nowhere)) (Ok (length (parcel_of 4 code edges words)))
widened_of short (refused why) = Err (fault why Place.Nowhere)

-- "19, with the first such edge's place, by the narrowing converter after all reader checks and before 5"
abbrev pub narrowed_of : Bool → Content → Written
narrowed_of short (holds code edges words) =
    cond (ltb (first_wide edges) (edge_count edges)) (Err (fault Refusal.EdgeTooWide (Place.Edge (first_wide edges))))
    (cond short (Err (fault Refusal.PlaceTooShort Place.Nowhere)) (Ok (length (parcel_of 2 code edges words))))
narrowed_of short (refused why) = Err (fault why Place.Nowhere)

-- what widening the bytes s over the place p comes to: a refusal changes nothing, and nothing is touched past what is put there
pub record WidenedSo (s p : List ℕ) (answer : Written) (p' : List ℕ) : Type 0 where
  pub answers : answer ≡ widened_of (shorter p (length (bytes_for 4 (read_of 2 s)))) (read_of 2 s)
  pub bytes : p' ≡ after_write answer (bytes_for 4 (read_of 2 s)) p

-- and narrowing
pub record NarrowedSo (s p : List ℕ) (answer : Written) (p' : List ℕ) : Type 0 where
  pub answers : answer ≡ narrowed_of (shorter p (length (bytes_for 2 (read_of 4 s)))) (read_of 4 s)
  pub bytes : p' ≡ after_write answer (bytes_for 2 (read_of 4 s)) p
