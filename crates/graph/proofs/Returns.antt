-- Returns: the word after a call is one, and each is the word after some call; so a ret's successors are these, wherever their calls stand.
use Prim.Native.Nat.{ℕ, ◌+◌, ◌<◌}
use mathlib.Core.Path.{◌≡◌, refl}
use mathlib.Core.Bool.{true, ◌&&◌}
use mathlib.Core.List.{List}
use borrow.Author.Tests.{eq-eqb, eqb-true}
use lib.Dec.{eqb}
use Rattle.lists.proofs.Bools.{and_left, and_right, both_true}
use Rattle.lists.proofs.Search.{any_hit, any_witness}
use Rattle.isa.specs.declared.Instr.{Instr}
use Rattle.isa.specs.Instructions.{instr_at, is_call}
use Rattle.graph.specs.Claim.{is_return, successor_by}

-- q is the word after the call at `call`
pub record AfterCall (memory : List ℕ) (n q : ℕ) : Type 0 where
  pub call : ℕ
  pub in_code : call < n
  pub calls : is_call (instr_at memory call) ≡ true
  pub next : q ≡ call + 1

module _ (memory : List ℕ) (n : ℕ) where
  pub return_of_call : (a : ℕ) → a < n → is_call (instr_at memory a) ≡ true → is_return memory n (a + 1) ≡ true
  unfolding is_return
  return_of_call a h c = any_hit (λ x. is_call (instr_at memory x) && eqb (a + 1) (x + 1)) n a h (both_true c (eq-eqb (a + 1) (a + 1) refl))

  -- wherever that call stands
  pub ret_successor : (edges : List ℕ) (p q : ℕ) → is_return memory n q ≡ true → successor_by memory n edges Instr.Ret p q ≡ true
  ret_successor edges p q r = r

  pub after_call : (q : ℕ) → is_return memory n q ≡ true → AfterCall memory n q
  unfolding is_return
  after_call q r =
      let v = any_witness (λ a. is_call (instr_at memory a) && eqb q (a + 1)) n r in
      record {
        call = v.0;
        in_code = v.1;
        calls = and_left _ (eqb q (v.0 + 1)) v.2;
        next = eqb-true q (v.0 + 1) (and_right (is_call (instr_at memory v.0)) _ v.2);
      }
