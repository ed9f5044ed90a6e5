-- The paths of the example, from their last steps: who goes to an address is looked for among the words by computation.
use Rattle.std.proofs.Common.{ℕ, ◌<◌, ◌≡◌, ◌⊎◌, refl, ap, ◌∙◌, Bool, true, false, not, ◌&&◌, ◌||◌, List, [], ◌∷◌, ◌++◌, length, arith}
use mathlib.Core.Logic.{inl, inr, ⊎_elim}
use borrow.Author.Tests.{ltb-true, eqb-true, not-false}
use lib.Dec.{ltb, eqb}
use Rattle.lists.specs.Search.{lowest, any}
use Rattle.lists.proofs.Bools.{clash, and_left, and_rest, either, true_false}
use Rattle.lists.proofs.Search.{any_none}
use Rattle.isa.specs.Words.{decode_of, encode_of, word_of}
use Rattle.graph.specs.Claim.{is_edge, has_edge, is_destination, id_of, is_return, is_successor}
use Rattle.graph.specs.Paths.{Path}
use Rattle.guards.specs.Sequences.{fits, stands_at, ends_at}
use Rattle.guards.specs.Rules.{inside_jump_guard, inside_store_guard}
use Rattle.checker.specs.Verdicts.{first_broken, verdict_of}
use Rattle.paths.specs.Shortest.{PartsLower, PathTo, NoPath, Best, InCode, Shortest}
use Rattle.paths.specs.Examples.{two_ways, PathsShown}

abbrev follows : ℕ → ℕ → Bool
follows = is_successor two_ways 5 []

low : (p q : ℕ) → follows p q ≡ true → p < 5
unfolding is_successor
low p q e = ltb-true p 5 (and_left (ltb p 5) _ e)

-- who goes to q passes a test, where a look at each word says so
passes : (test : ℕ → Bool) (q : ℕ) → any (λ p. follows p q && not (test p)) 5 ≡ false → (p : ℕ) → follows p q ≡ true → test p ≡ true
passes test q none p e = not-false _ (and_rest _ _ e (any_none (λ p. follows p q && not (test p)) 5 none p (low p q e)))

nobody : (q : ℕ) → any (λ p. follows p q && not false) 5 ≡ false → (p : ℕ) → follows p q ≡ true → ⊥
nobody q none p e = true_false (passes (λ _. false) q none p e) refl

-- a path is 0 alone, or has a last step
record Last (a : ℕ) (way : List ℕ) : Type 0 where
  pub p : ℕ
  pub first : List ℕ
  pub path : PathTo follows p first
  pub step : follows p a ≡ true
  pub whole : way ≡ first ++ a ∷ []

last_step : {a : ℕ} {way : List ℕ} → PathTo follows a way → ((a ≡ 0) × (way ≡ 0 ∷ [])) ⊎ Last a way
last_step Path.Start = inl (refl, refl)
last_step (Path.On {p} {q} {way} path e) = inr (record { p = p; first = way; path = path; step = e; whole = refl })

to_zero : {way : List ℕ} → PathTo follows 0 way → way ≡ 0 ∷ []
unfolding any is_successor is_return decode_of encode_of word_of
to_zero path = ⊎_elim (λ s. s.1) (λ l. absurd (nobody 0 refl l.p l.step)) (last_step path)

-- what leads to an address that only 0 goes to
by_zero : (a : ℕ) → 0 < a → any (λ p. follows p a && not (eqb p 0)) 5 ≡ false → {way : List ℕ} → PathTo follows a way → way ≡ 0 ∷ a ∷ []
by_zero a some none path =
    ⊎_elim (λ s. clash (omega (arith, s.0, some)))
    (λ l.
    let zero : l.p ≡ 0 = eqb-true l.p 0 (passes (λ p. eqb p 0) a none l.p l.step) in
    l.whole ∙ ap (λ (w : List ℕ). w ++ a ∷ []) (to_zero (rw zero at l.path)))
    (last_step path)

to_three : {way : List ℕ} → PathTo follows 3 way → (way ≡ 0 ∷ 1 ∷ 3 ∷ []) ⊎ (way ≡ 0 ∷ 2 ∷ 3 ∷ [])
unfolding any is_successor is_return decode_of encode_of word_of
to_three path = ⊎_elim (λ s. clash (omega (arith, s.0))) (λ l. go l (either (eqb l.p 1) (eqb l.p 2) (passes (λ p. eqb p 1 || eqb p 2) 3 refl l.p l.step))) (last_step path)
  where
    go : {way : List ℕ} (l : Last 3 way) → (eqb l.p 1 ≡ true) ⊎ (eqb l.p 2 ≡ true) → (way ≡ 0 ∷ 1 ∷ 3 ∷ []) ⊎ (way ≡ 0 ∷ 2 ∷ 3 ∷ [])
    go l (inl e) =
        let is : l.p ≡ 1 = eqb-true l.p 1 e in
        inl (l.whole ∙ ap (λ (w : List ℕ). w ++ 3 ∷ []) (by_zero 1 (omega arith) refl (rw is at l.path)))
    go l (inr e) =
        let is : l.p ≡ 2 = eqb-true l.p 2 e in
        inr (l.whole ∙ ap (λ (w : List ℕ). w ++ 3 ∷ []) (by_zero 2 (omega arith) refl (rw is at l.path)))

lower_way : Best follows 3 (0 ∷ 1 ∷ 3 ∷ [])
unfolding is_successor is_return decode_of encode_of word_of
lower_way =
    record {
      path = Path.On (Path.On Path.Start refl) refl;
      fewest = λ other p. ⊎_elim (λ e. omega (arith, ap length e)) (λ e. omega (arith, ap length e)) (to_three p);
      lowest = λ other p _. ⊎_elim (λ e. inl e) (λ e. inr (rw e (PartsLower.Later (PartsLower.Here {a = 1} {b = 2} (omega arith))))) (to_three p);
    }

none_to_four : NoPath follows 4
unfolding any is_successor is_return decode_of encode_of word_of
none_to_four way path = ⊎_elim (λ s. clash (omega (arith, s.0))) (λ l. nobody 4 refl l.p l.step) (last_step path)

pub paths_shown : PathsShown
unfolding verdict_of first_broken lowest any is_edge has_edge is_destination id_of fits stands_at ends_at inside_jump_guard inside_store_guard decode_of encode_of word_of
paths_shown =
    record {
      accepted = refl;
      lower = Shortest.Inside refl (omega arith) (InCode.Found (0 ∷ 1 ∷ 3 ∷ []) lower_way (omega arith));
      too_short = Shortest.Inside refl (omega arith) (InCode.TooShort (0 ∷ 1 ∷ 3 ∷ []) lower_way (omega arith));
      unreachable = Shortest.Inside refl (omega arith) (InCode.Unreachable none_to_four);
      outside = Shortest.Outside refl (omega arith);
    }
