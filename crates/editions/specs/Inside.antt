-- What only the private functions of this crate promise each other: a parcel put as one of the other edition, bytes put as they are, and
-- edge numbers cut to 16 bits. An address above 65,535 is outside code, and 65,535 is outside code too.
use Rattle.std.specs.Prelude.{ℕ, ◌+◌, ◌-◌, ◌≡◌, cond, List, [], ◌∷◌, length, take, drop, ltb, Ok, Err}
use Rattle.std.proofs.lemmas.List.Edits.{sets}
use Rattle.lists.specs.Places.{shorter}
use Rattle.answers.specs.declared.Refusal.{Refusal}
use Rattle.answers.specs.declared.Place.{Place}
use Rattle.answers.specs.Faults.{fault}
use Rattle.parcel.specs.Parcel.{Written, read_of, after_write}
use Rattle.editions.specs.Converters.{bytes_for}

-- what putting the parcel s, whose edge numbers have w bytes, as one with v over the place p comes to
pub record ConvertedSo (w v : ℕ) (s p : List ℕ) (answer : Written) (p' : List ℕ) : Type 0 where
  pub answers : answer
      ≡ cond (shorter p (length (bytes_for v (read_of w s)))) (Err (fault Refusal.PlaceTooShort Place.Nowhere)) (Ok (length (bytes_for v (read_of w s))))
  pub bytes : p' ≡ after_write answer (bytes_for v (read_of w s)) p

-- t' is t with the bytes of s from the i-th to the one before the k-th put where they have their places in s, counted from at on
pub record Copied (s : List ℕ) (at i : ℕ) (t t' : List ℕ) (k : ℕ) : Type 0 where
  pub bytes : t' ≡ sets t (at + i) (take (k - i) (drop i s))

abbrev pub cut_of : ℕ → ℕ
cut_of x = cond (ltb x 65536) x 65535

unfoldable pub cut_all : List ℕ → List ℕ
cut_all [] = []
cut_all (x ∷ xs) = cut_of x ∷ cut_all xs
