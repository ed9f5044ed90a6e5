-- What a well_shaped memory says in numbers.
use Prim.Native.Nat.{ℕ, ◌-◌, ◌≤◌}
use mathlib.Core.Path.{◌≡◌}
use mathlib.Core.Bool.{true}
use lib.Dec.{leb}
use borrow.Author.Tests.{leb-true}
use Rattle.lists.proofs.Bools.{and_four}
use Rattle.answers.specs.Shape.{memory_shaped}

pub record Shaped (len n : ℕ) : Type 0 where
  pub some_code : 1 ≤ n
  pub code_limit : n ≤ 2048
  pub within : n ≤ len
  pub data_limit : len - n ≤ 2048

pub shaped : (len n : ℕ) → memory_shaped len n ≡ true → Shaped len n
shaped len n h =
    let p = and_four (leb 1 n) (leb n 2048) (leb n len) (leb (len - n) 2048) h in
    record {
      some_code = leb-true _ _ p.0;
      code_limit = leb-true _ _ p.1;
      within = leb-true _ _ p.2;
      data_limit = leb-true _ _ p.3;
    }
