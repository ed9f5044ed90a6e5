-- Who follows whom is told by the code words and the edges alone: what stands after the code makes no difference.
use Prim.Native.Nat.{ℕ, ◌+◌, ◌<◌}
use mathlib.Core.Path.{◌≡◌, refl, ap, ◌∙◌}
use mathlib.Core.Bool.{Bool, true, false, ◌&&◌}
use mathlib.Core.List.{List, ◌++◌}
use borrow.Author.Tests.{ltb-true}
use lib.Dec.{ltb, eqb}
use lib.ListN.{length, get_or-append}
use Rattle.lists.proofs.Bools.{and_under}
use Rattle.lists.proofs.Search.{any_ext}
use Rattle.isa.specs.declared.Instr.{Instr}
use Rattle.isa.specs.Words.{decode_of}
use Rattle.isa.specs.Instructions.{instr_at, is_call}
use Rattle.graph.specs.Claim.{is_return, successor_by, is_successor}

module _ (code rest : List ℕ) where
  abbrev n : ℕ
  n = length code

  pub return_code : (q : ℕ) → is_return (code ++ rest) n q ≡ is_return code n q
  unfolding is_return
  return_code q =
      any_ext (λ a. is_call (instr_at (code ++ rest) a) && eqb q (a + 1)) (λ a. is_call (instr_at code a) && eqb q (a + 1)) n
      (λ a h. ap (λ (x : ℕ). is_call (decode_of x) && eqb q (a + 1)) (get_or-append code rest 0 a h))

  successor_by_code : (edges : List ℕ) (i : Instr) (p q : ℕ) → successor_by (code ++ rest) n edges i p q ≡ successor_by code n edges i p q
  successor_by_code edges (Instr.Label w) p q = refl
  successor_by_code edges (Instr.Add rd rs rt) p q = refl
  successor_by_code edges (Instr.Addi rd rs w) p q = refl
  successor_by_code edges (Instr.Movi rd w) p q = refl
  successor_by_code edges (Instr.Bgt rs rt w) p q = refl
  successor_by_code edges (Instr.Jd w) p q = refl
  successor_by_code edges (Instr.Jmp rs) p q = refl
  successor_by_code edges (Instr.Ld rd rs w) p q = refl
  successor_by_code edges (Instr.St rd rs w) p q = refl
  successor_by_code edges (Instr.Call w) p q = refl
  successor_by_code edges Instr.Ret p q = return_code q
  successor_by_code edges Instr.Illegal p q = refl

  pub successor_code : (edges : List ℕ) (p q : ℕ) → is_successor (code ++ rest) n edges p q ≡ is_successor code n edges p q
  unfolding is_successor
  successor_code edges p q =
      and_under (ltb p n) _ _
      (λ h.
      ap (λ (b : Bool). ltb q n && b)
      (successor_by_code edges (instr_at (code ++ rest) p) p q
      ∙ ap (λ (x : ℕ). successor_by code n edges (decode_of x) p q) (get_or-append code rest 0 p (ltb-true p n h))))
