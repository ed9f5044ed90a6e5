-- What the sections hold, as they are read one after another: each count stands in the bytes after the section before it.
use mathlib.Core.Path.{◌≡◌, sym, ap, ◌∙◌}
use mathlib.Core.List.{List}
use Prim.Native.Nat.{ℕ, ◌+◌, ◌-◌, ◌*◌, ◌/◌, ◌≤◌, ◌<◌}
use native.Mathlib.Omega.{arith}
use lib.ListN.{length, drop, length-drop}
use lib.Seq.{drop-drop}
use Rattle.std.specs.Prelude.{Result, Ok, Err}
use Rattle.answers.specs.declared.Refusal.{Refusal}
use Rattle.parcel.specs.Parcel.{counts, count_of, read_of}
use Rattle.parcel.specs.Inner.{held_of}
use Rattle.parcel.proofs.Runs.{length_numbers}
use Rattle.parcel.proofs.Contents.{bytes_left, all_read}

count_there : (size low : ℕ) {s rest : List ℕ} {c : Result ℕ Refusal} → rest ≡ s → count_of size low rest ≡ c → count_of size low s ≡ c
count_there size low r h = ap (count_of size low) (sym r) ∙ h

module _ (w : ℕ) (s : List ℕ) where
  module _ {n : ℕ} {s₁ : List ℕ} (h₁ : count_of 8 1 s ≡ Ok n) (r₁ : s₁ ≡ drop (4 + n * 8) s) where
    module _ {e : ℕ} {s₂ : List ℕ} (h₂ : count_of (2 * w) 0 s₁ ≡ Ok e) (r₂ : s₂ ≡ drop (4 + e * (2 * w)) s₁) where
      abbrev data_at : ℕ
      data_at = 4 + n * 8 + (4 + e * (2 * w))

      edges_there : count_of (2 * w) 0 (drop (4 + n * 8) s) ≡ Ok e
      edges_there = count_there (2 * w) 0 r₁ h₂

      there : s₂ ≡ drop data_at s
      there = r₂ ∙ ap (drop (4 + e * (2 * w))) r₁ ∙ drop-drop (4 + e * (2 * w)) (4 + n * 8) s

      module _ {d : ℕ} {s₃ : List ℕ} (h₃ : count_of 8 0 s₂ ≡ Ok d) (r₃ : s₃ ≡ drop (4 + d * 8) s₂) where
        data_there : count_of 8 0 (drop data_at s) ≡ Ok d
        data_there = count_there 8 0 there h₃

        left : length s₃ ≡ length s - (data_at + (4 + d * 8))
        left = ap length (r₃ ∙ ap (drop (4 + d * 8)) there ∙ drop-drop (4 + d * 8) data_at s) ∙ length-drop (data_at + (4 + d * 8)) s

        pub bytes_follow : 0 < length s₃ → Err Refusal.TrailingBytes ≡ held_of (read_of w s)
        bytes_follow l = sym (ap held_of (bytes_left w s h₁ edges_there data_there (omega (arith, left))))

        pub all_held : length s₃ ≤ 0 → Ok (counts n e d) ≡ held_of (read_of w s)
        all_held l =
            let half : e * 2 / 2 ≡ e = omega arith in
            sym (simp (length_numbers, half) at (ap held_of (all_read w s h₁ edges_there data_there (omega (arith, left)))))
