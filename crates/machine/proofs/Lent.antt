-- States in 162 words, put back where they came from, with the pc and the depth stored where they stand; and what the private functions
-- over lent registers say of the calls.
use Rattle.std.proofs.Common.{◌≡◌, ℕ, ◌≤◌, List, ◌∷◌, ◌++◌, length, get_or, take, drop, set, sym, ap, ◌∙◌, arith, append_assoc, length-append, take-append-drop, length-take-le, length-drop, drop-cons, le-ltb}
use lib.Seq.{drop-drop}
use Rattle.lists.specs.Places.{put_over}
use Rattle.isa.specs.declared.Technique.{Technique}
use Rattle.machine.specs.declared.At.{At}
use Rattle.machine.specs.declared.Ran.{Ran}
use Rattle.machine.specs.declared.State.{State}
use Rattle.machine.specs.declared.Ended.{Ended}
use Rattle.machine.specs.Steps.{stack_places, state_of}
use Rattle.machine.specs.Lent.{state_in, words_of, state_words, ended, RunsLent}
use Rattle.machine.specs.Inside.{state_at, RanOver}

-- the words of a state and those after them
pub whole : (s : State) (words : List ℕ) → length s.regs ≡ 32 → length s.stack ≡ stack_places
    → s.regs ++ (s.pc ∷ s.depth ∷ (s.stack ++ drop state_words words)) ≡ put_over (words_of s) words
whole s words r l =
    sym (append_assoc s.regs (s.pc ∷ s.depth ∷ s.stack) (drop state_words words))
    ∙ ap (λ (n : ℕ). words_of s ++ drop n words) (sym size)
  where
    size : length (words_of s) ≡ state_words
    size = length-append s.regs (s.pc ∷ s.depth ∷ s.stack) ∙ omega (arith, r, l)

module _ (words : List ℕ) (h : 162 ≤ length words) where
  -- after the registers stand the pc and the depth
  stands : drop 32 words ≡ get_or words 32 0 ∷ get_or words 33 0 ∷ drop 34 words
  stands =
      drop-cons words 32 0 (omega (arith, h))
      ∙ ap (λ (l : List ℕ). get_or words 32 0 ∷ l) (drop-cons words 33 0 (omega (arith, h)))

  after_stack : drop 128 (drop 34 words) ≡ drop state_words words
  after_stack = drop-drop 128 34 words

  pub put_back : put_over (words_of (state_in words)) words ≡ words
  put_back =
      sym (whole (state_in words) words (length-take-le 32 words (omega (arith, h))) (length-take-le 128 (drop 34 words) (omega (arith, h, length-drop 34 words))))
      ∙ ap (λ (l : List ℕ). take 32 words ++ (get_or words 32 0 ∷ get_or words 33 0 ∷ (take 128 (drop 34 words) ++ l))) (sym after_stack)
      ∙ ap (λ (l : List ℕ). take 32 words ++ (get_or words 32 0 ∷ get_or words 33 0 ∷ l)) (take-append-drop 128 (drop 34 words))
      ∙ ap (λ (l : List ℕ). take 32 words ++ l) (sym stands)
      ∙ take-append-drop 32 words

  -- the registers, then the pc and the depth put down, then the stack
  pub put_at : (regs stack : List ℕ) (at : At) → length regs ≡ 32 → length stack ≡ stack_places
      → regs ++ (set (set (take 2 (drop 32 words)) 0 at.pc) 1 at.depth ++ (stack ++ drop 128 (drop 2 (drop 32 words))))
      ≡ put_over (words_of (state_at regs at stack)) words
  put_at regs stack at r l =
      ap (λ (x : List ℕ). regs ++ (set (set (take 2 x) 0 at.pc) 1 at.depth ++ (stack ++ drop 128 (drop 2 x)))) stands
      ∙ ap (λ (x : List ℕ). regs ++ (at.pc ∷ at.depth ∷ (stack ++ x))) after_stack
      ∙ whole (state_at regs at stack) words r l

-- the run over what stands in the words, and then the pc and the depth put down
pub ran_lent : {t : Technique} {n limit : ℕ} {words m : List ℕ} {at : At} {r : Ended} {regs' m' stack' : List ℕ} → 162 ≤ length words
    → RanOver t n limit (state_of (take 32 words) (get_or words 32 0) (get_or words 33 0) (take 128 (drop 2 (drop 32 words)))) m at r regs' m' stack'
    → RunsLent t n limit words m r
    (regs' ++ (set (set (take 2 (drop 32 words)) 0 at.pc) 1 at.depth ++ (stack' ++ drop 128 (drop 2 (drop 32 words)))))
    m'
ran_lent {t} {n} {limit} {words} {m} {at} {r} {regs'} {m'} {stack'} h k =
    let long = le-ltb (length words) 162 h in
    let ran : RanOver t n limit (state_in words) m at r regs' m' stack' = rw (drop-drop 2 32 words) at k in
    record {
      answer = rw long (ap (λ (x : Ran). ended x.ending x.count) ran.answer);
      words_after = rw long (put_at words h regs' stack' at ran.size ran.stack_size ∙ ap (λ (x : Ran). put_over (words_of x.state) words) ran.answer);
      memory = rw long ran.memory;
    }
