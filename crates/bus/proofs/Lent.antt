-- A register of a state's 162 words, stored where it stands; and what the private function over lent registers says of the calls.
use Prim.Native.Nat.{ℕ, ◌≤◌, ◌<◌}
use mathlib.Core.Bool.{Bool, true, false}
use mathlib.Core.Path.{◌≡◌, refl, sym, ap, ◌∙◌}
use mathlib.Core.List.{List, ◌∷◌, ◌++◌}
use native.Mathlib.Omega.{arith}
use lib.Dec.{leb}
use lib.ListN.{length, get_or, take, drop, set, length-set, length-append}
use lib.Seq.{length-take-le, take-set-lt, drop-set-lt, get_or-set_other}
use borrow.Author.Tests.{le-ltb, leb-true}
use Rattle.lists.specs.Places.{put_over}
use Rattle.lists.proofs.Bools.{and_right}
use Rattle.machine.specs.declared.State.{State}
use Rattle.machine.specs.Steps.{state_of, depth_fits}
use Rattle.machine.specs.Lent.{state_in, words_of, short_state}
use Rattle.machine.proofs.Lent.{put_back}
use Rattle.bus.specs.Numbers.{Written}
use Rattle.bus.specs.Bus.{writable, write_register_of, WritesRegister}
use Rattle.bus.specs.Lent.{WritesRegisterLent}
use Rattle.bus.specs.Inside.{PutsRegister}

-- a register is the word at its number
register_put : (words : List ℕ) (i word : ℕ) → i < 32 → 162 ≤ length words
    → set words i word
    ≡ put_over
    (words_of (state_of (set (take 32 words) i word) (get_or words 32 0) (get_or words 33 0) (take 128 (drop 34 words))))
    words
register_put words i word h l =
    sym (put_back after (omega (arith, l, length-set words i word)))
    ∙ ap (λ (s : State). put_over (words_of s) after) same
    ∙ ap (λ (x : List ℕ). words_of written ++ x) (drop-set-lt (length (words_of written)) words i word far)
  where
    after : List ℕ
    after = set words i word

    regs : List ℕ
    regs = set (take 32 words) i word

    written : State
    written = state_of regs (get_or words 32 0) (get_or words 33 0) (take 128 (drop 34 words))

    same : state_in after ≡ written
    same =
        rw (
          take-set-lt 32 words i word h,
          get_or-set_other words i 32 word 0 (λ e. omega (arith, h, e)),
          get_or-set_other words i 33 word 0 (λ e. omega (arith, h, e)),
          drop-set-lt 34 words i word (omega (arith, h)),
        )

    far : i < length (words_of written)
    far =
        omega (
          arith,
          h,
          l,
          length-append regs (written.pc ∷ written.depth ∷ written.stack),
          length-set (take 32 words) i word,
          length-take-le 32 words (omega (arith, l)),
        )

module _ {register word : ℕ} {r : Written} where
  -- a word put into a register of a state
  pub register_written : {s : State} {regs' : List ℕ} → PutsRegister s.depth s.regs register word r regs'
      → WritesRegister s register word (record { state = state_of regs' s.pc s.depth s.stack; answer = r })
  unfolding write_register_of
  register_written {s} {regs'} k = go (depth_fits s.depth) (writable register) refl refl
    where
      go : (d b : Bool) → depth_fits s.depth ≡ d → writable register ≡ b
          → WritesRegister s register word (record { state = state_of regs' s.pc s.depth s.stack; answer = r })
      go false b f e = record { answer = rw (k.answer, k.registers, f); number = rw (k.answer, f) }
      go true true f e = record { answer = rw (k.answer, k.registers, f, e); number = rw (k.answer, f, e) }
      go true false f e = record { answer = rw (k.answer, k.registers, f, e); number = rw (k.answer, f, e) }

  -- and into one of a state's words
  pub lent_written : {words words' : List ℕ} → 162 ≤ length words → PutsRegister (get_or words 33 0) words register word r words'
      → WritesRegisterLent words register word r words'
  unfolding write_register_of
  lent_written {words} {words'} h k = go (depth_fits (get_or words 33 0)) (writable register) refl refl
    where
      long : short_state words ≡ false
      long = le-ltb (length words) 162 h

      go : (d b : Bool) → depth_fits (get_or words 33 0) ≡ d → writable register ≡ b → WritesRegisterLent words register word r words'
      go false b f e = record { answer = rw (long, k.answer, f); words_after = rw (long, k.registers, f) (sym (put_back words h)) }
      go true true f e =
          let low = leb-true register 31 (and_right (leb 3 register) (leb register 31) e) in
          record {
            answer = rw (long, k.answer, f, e);
            words_after = rw (long, k.registers, f, e) (register_put words register word (omega (arith, low)) h);
          }
      go true false f e =
          record { answer = rw (long, k.answer, f, e); words_after = rw (long, k.registers, f, e) (sym (put_back words h)) }
