-- Which addresses follow the one at `head` of a queue, by its word.
use Rattle.std.proofs.Common.{ℕ, ◌+◌, ◌<◌, ◌≡◌, ◌⊎◌, refl, sym, ap, subst, ◌∙◌, Bool, true, ◌&&◌, List, arith}
use mathlib.Core.Logic.{inl, inr}
use borrow.Author.Tests.{lt-ltb, ltb-true, eqb-true}
use lib.Dec.{ltb, eqb}
use lib.ListN.{get_or}
use Rattle.lists.proofs.Bools.{and_left, and_right}
use Rattle.isa.specs.declared.Instr.{Instr}
use Rattle.isa.specs.Words.{decode_of}
use Rattle.isa.specs.Instructions.{instr_at, is_jump}
use Rattle.graph.specs.Claim.{edge_count, jump_of, has_edge, successor_by, is_successor}
use Rattle.rising.specs.Rising.{Rising}
use Rattle.rising.proofs.Rising.{clean_rising}
use Rattle.paths.specs.declared.reached.Reached.{Reached}
use Rattle.paths.specs.declared.program.Program.{Program}
use Rattle.paths.specs.Given.{FirstOf, Firsts}
use Rattle.paths.specs.Inside.{at, Front, follows_in}
use Rattle.lists.proofs.Search.{any_witness}
use Rattle.paths.proofs.Queues.{queue_few}

successor_in : (memory : List ℕ) (n : ℕ) (edges : List ℕ) (p q : ℕ) → is_successor memory n edges p q ≡ true → q < n
unfolding is_successor
successor_in memory n edges p q e =
    ltb-true q n (and_left (ltb q n) (successor_by memory n edges (instr_at memory p) p q) (and_right (ltb p n) _ e))

pub inside : (program : Program) (p q : ℕ) → follows_in program p q ≡ true → q < program.n
inside program = successor_in program.memory.now program.n program.edges.now

pub rising : (program : Program) → Rising program.edges.now
rising program = clean_rising program.edges.now program.searchable.rising

-- of an address of code they are those of its word, cut to code
successors : (memory : List ℕ) (n : ℕ) (edges : List ℕ) (p : ℕ) (i : Instr) → p < n → i ≡ instr_at memory p → (q : ℕ)
    → is_successor memory n edges p q ≡ (ltb q n && successor_by memory n edges i p q)
unfolding is_successor
successors memory n edges p i l e q = rw (e, lt-ltb p n l)

-- no branch, jump, call, ret or illegal word: the address after it
falls : (memory : List ℕ) (n : ℕ) (edges : List ℕ) (p : ℕ) (i : Instr) → ((x y z : ℕ) → i ≡ Instr.Bgt x y z → ⊥) → ((x : ℕ) → i ≡ Instr.Jd x → ⊥)
    → ((x : ℕ) → i ≡ Instr.Jmp x → ⊥) → ((x : ℕ) → i ≡ Instr.Call x → ⊥) → (i ≡ Instr.Ret → ⊥) → (i ≡ Instr.Illegal → ⊥) → (q : ℕ)
    → successor_by memory n edges i p q ≡ eqb q (p + 1)
falls memory n edges p (Instr.Label w) b d j c r h q = refl
falls memory n edges p (Instr.Add rd rs rt) b d j c r h q = refl
falls memory n edges p (Instr.Addi rd rs w) b d j c r h q = refl
falls memory n edges p (Instr.Movi rd w) b d j c r h q = refl
falls memory n edges p (Instr.Bgt rs rt w) b d j c r h q = absurd (b rs rt w refl)
falls memory n edges p (Instr.Jd w) b d j c r h q = absurd (d w refl)
falls memory n edges p (Instr.Jmp rs) b d j c r h q = absurd (j rs refl)
falls memory n edges p (Instr.Ld rd rs w) b d j c r h q = refl
falls memory n edges p (Instr.St rd rs w) b d j c r h q = refl
falls memory n edges p (Instr.Call w) b d j c r h q = absurd (c w refl)
falls memory n edges p Instr.Ret b d j c r h q = absurd (r refl)
falls memory n edges p Instr.Illegal b d j c r h q = absurd (h refl)

pub head_low : (program : Program) {r : Reached} {head : ℕ} → Front (follows_in program) program.n r head → head < r.len → head < 2048
head_low program front l =
    omega (arith, l, queue_few (follows_in program) program.n (inside program) front.queue, program.searchable.sized.code_limit)

-- the word at `head` of a queue, as it was read and decoded: p is its address, and d the instruction
module _ (program : Program) {r : Reached} {head : ℕ} (p : ℕ) (d : Instr) (at_p : p ≡ at r head) (decoded : d ≡ decode_of (get_or program.memory.now p 0))
    (front : Front (follows_in program) program.n r head) (l : head < r.len) where
  pub by_word : (i : Instr) → d ≡ i → (q : ℕ)
      → follows_in program (at r head) q ≡ (ltb q program.n && successor_by program.memory.now program.n program.edges.now i p q)
  by_word i g q =
      let low : p < program.n = omega (arith, at_p, front.queue.inside head l) in
      rw (← at_p) (successors program.memory.now program.n program.edges.now p i low (sym g ∙ decoded) q)

  pub by_branch : (w : ℕ) → (d ≡ Instr.Jd w) ⊎ (d ≡ Instr.Call w) → (q : ℕ) → follows_in program (at r head) q ≡ (ltb q program.n && eqb q w)
  by_branch w (inl g) q = by_word (Instr.Jd w) g q
  by_branch w (inr g) q = by_word (Instr.Call w) g q

  pub by_next : ((x y z : ℕ) → d ≡ Instr.Bgt x y z → ⊥) → ((x : ℕ) → d ≡ Instr.Jd x → ⊥) → ((x : ℕ) → d ≡ Instr.Jmp x → ⊥)
      → ((x : ℕ) → d ≡ Instr.Call x → ⊥) → (d ≡ Instr.Ret → ⊥) → (d ≡ Instr.Illegal → ⊥) → (q : ℕ)
      → follows_in program (at r head) q ≡ (ltb q program.n && eqb q (p + 1))
  by_next b j m c t i q =
      by_word d refl q ∙ ap (λ (x : Bool). ltb q program.n && x) (falls program.memory.now program.n program.edges.now p d b j m c t i q)

  -- a jmp has a first edge, since it has one
  pub first_there : (firsts : List ℕ) (rs : ℕ) → d ≡ Instr.Jmp rs → Firsts program.edges.now firsts → FirstOf program.edges.now p (get_or firsts p 0)
  unfolding has_edge
  first_there firsts rs j h =
      let low : p < program.n = omega (arith, at_p, front.queue.inside head l) in
      let w = any_witness (λ k. eqb (jump_of program.edges.now k) p) (edge_count program.edges.now) (program.searchable.leaving p low (ap is_jump (sym decoded ∙ j))) in
      subst (λ (x : ℕ). FirstOf program.edges.now x (get_or firsts x 0)) (eqb-true _ _ w.2) (h w.0 w.1)
