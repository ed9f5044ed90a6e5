-- How long sections and parcels are, and that sections stored one after another make a parcel.
use mathlib.Core.Path.{◌≡◌, sym, ap₂, ◌∙◌}
use mathlib.Core.List.{List, ◌++◌}
use Prim.Native.Nat.{ℕ, ◌+◌, ◌*◌, ◌/◌, ◌≤◌}
use native.Mathlib.Omega.{arith}
use lib.ListN.{length, length-append}
use lib.Seq.{sets}
use Rattle.parcel.specs.Bytes.{bytes_of, all_bytes_of}
use Rattle.lists.specs.Places.{put_over}
use Rattle.parcel.specs.Parcel.{section_of, parcel_of}
use Rattle.lists.proofs.Places.{over_front, sets_append}
use Rattle.parcel.proofs.Numbers.{length_bytes}
use Rattle.parcel.proofs.Runs.{length_all_bytes}

pub length_section : (w p : ℕ) (xs : List ℕ) → length (section_of w p xs) ≡ 4 + length xs * w
unfolding section_of
length_section w p xs =
    length-append (bytes_of 4 (length xs / p)) (all_bytes_of w xs) ∙ ap₂ (λ (a b : ℕ). a + b) (length_bytes 4 _) (length_all_bytes w xs)

pub length_parcel : (w : ℕ) (code edges words : List ℕ) → length (parcel_of w code edges words) ≡ 4 + length code * 8 + (4 + length edges * w) + (4 + length words * 8)
unfolding parcel_of
length_parcel w code edges words = simp (length-append, length_section) (omega arith)

-- a count, and then the numbers
pub section_put : (w p at : ℕ) (xs s : List ℕ) {s₁ s₂ : List ℕ} → s₁ ≡ sets s at (bytes_of 4 (length xs / p)) → s₂ ≡ sets s₁ (at + 4) (all_bytes_of w xs) → s₂ ≡ sets s at (section_of w p xs)
unfolding section_of
section_put w p at xs s e f =
    let count = bytes_of 4 (length xs / p) in
    f ∙ (λ j. sets (e j) (at + sym (length_bytes 4 (length xs / p)) j) (all_bytes_of w xs)) ∙ sym (sets_append count (all_bytes_of w xs) s at)

-- three sections, each where the one before it ends
pub parcel_put : (w a b : ℕ) (code edges words s : List ℕ) {s₁ s₂ s₃ : List ℕ} → 4 + length code * 8 ≡ a → a + (4 + length edges * w) ≡ b → b + (4 + length words * 8) ≤ length s
    → s₁ ≡ sets s 0 (section_of 8 1 code) → s₂ ≡ sets s₁ a (section_of w 2 edges) → s₃ ≡ sets s₂ b (section_of 8 1 words) → s₃ ≡ put_over (parcel_of w code edges words) s
unfolding parcel_of
parcel_put w a b code edges words s p q r e f g =
    let x = section_of 8 1 code in
    let y = section_of w 2 edges in
    let z = section_of 8 1 words in
    let p' : a ≡ 0 + length x = omega (arith, length_section 8 1 code) in
    let q' : b ≡ 0 + length x + length y = omega (arith, length_section 8 1 code, length_section w 2 edges) in
    g ∙ (λ j. sets (f j) (q' j) z) ∙ (λ j. sets (sets (e j) (p' j) y) (0 + length x + length y) z)
    ∙ sym (sets_append x (y ++ z) s 0 ∙ sets_append y z (sets s 0 x) (0 + length x))
    ∙ over_front (x ++ (y ++ z)) s (simp (length-append, length_section) (omega arith))
