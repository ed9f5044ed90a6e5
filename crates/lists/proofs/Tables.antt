-- Laws of arrays with a meaning for each index: a new one, and how a store changes it.
use Prim.Native.Nat.{ℕ, ◌<◌}
use mathlib.Core.Path.{◌≡◌, sym, subst, ◌∙◌}
use mathlib.Core.Logic.{◌≢◌}
use mathlib.Core.List.{List}
use native.Mathlib.Omega.{arith}
use native.Mathlib.Decide.{ℕ_discrete}
use lib.ListN.{get_or, set, length-set}
use lib.Seq.{get_or-set_same, get_or-set_other}
use Rattle.lists.specs.Tables.{Table}

pub table_as : {xs : List ℕ} {n : ℕ} {F : ℕ → ℕ} (G : ℕ → ℕ) → Table xs n F → ((j : ℕ) → j < n → F j ≡ G j) → Table xs n G
table_as G h e = record { size = h.size; each = λ j l. h.each j l ∙ e j l }

-- one store at i: the new meaning is v at i and the old one elsewhere
pub table_set : {xs : List ℕ} {n : ℕ} {F : ℕ → ℕ} (G : ℕ → ℕ) (i v : ℕ) → Table xs n F → i < 2048 → v ≡ G i
    → ((j : ℕ) → j < n → j ≢ i → F j ≡ G j) → Table (set xs i v) n G
table_set {xs} {n} {F} G i v h l e o =
    record { size = length-set xs i v ∙ h.size; each = λ j q. go j q (ℕ_discrete j i) }
  where
    go : (j : ℕ) → j < n → Dec (j ≡ i) → get_or (set xs i v) j 0 ≡ G j
    go j q (yes p) =
        subst (λ (x : ℕ). get_or (set xs i v) x 0 ≡ G x) (sym p)
        (get_or-set_same xs i v 0 (let z = h.size in omega arith) ∙ e)
    go j q (no p) = get_or-set_other xs i j v 0 p ∙ h.each j q ∙ o j q p
