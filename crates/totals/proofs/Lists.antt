-- The totals of a list (`TotalsOfList`), one addition after the other: what holds of those that are in holds of them and one more.
-- The sums stay below 64 bits, since each number is below 32 bits and there are at most 65,535 of them.
use Prim.Native.Nat.{ℕ, zero, suc, ◌+◌, ◌*◌, ◌^◌, ◌≤◌, ◌<◌}
use mathlib.Core.Path.{◌≡◌, refl, sym, ap, subst, ◌∙◌}
use mathlib.Core.Bool.{Bool, true, false, not, cond, ◌&&◌}
use mathlib.Core.List.{List, [], ◌∷◌, ◌++◌, map, append-nil}
use mathlib.Core.Logic.{◌⊎◌, inl, inr, ⊎_elim}
use native.Mathlib.Nat.{le_of_lt, le_of_eq}
use native.Mathlib.Omega.{arith}
use borrow.Author.Tests.{ltb-true, ltb-false, lt-ltb}
use lib.Dec.{ltb, eqb}
use lib.ListN.{length, length-append}
use lib.Seq.{append_snoc}
use Rattle.lists.proofs.Bools.{clash}
use Rattle.std.specs.Prelude.{Option, Some, None, Ok, Err}
use Rattle.answers.specs.Faults.{Verdict}
use Rattle.isa.specs.declared.Kind.{Kind}
use Rattle.isa.specs.declared.Technique.{Technique}
use Rattle.checker.specs.Verdicts.{verdict_of}
use Rattle.parcel.specs.Parcel.{Content, holds, refused, read_of}
use Rattle.report.specs.declared.Freedom.{Freedom}
use Rattle.report.specs.Figures.{words_of_kind, freedom, numerator_of, denominator_of, figures_of}
use Rattle.report.specs.Reports.{Report, freedom_in, report_by, report_of, content_report}
use Rattle.report.specs.Theorems.{sum, FreedomFits, Fits}
use Rattle.report.proofs.Bounds.{freedoms_fit}
use Rattle.totals.specs.declared.Largest.{Largest}
use Rattle.totals.specs.declared.Totals.{Totals}
use Rattle.totals.specs.Totals.{fresh_totals, largest_at, largest_after, add_freedom, add_one, add_report}
use Rattle.totals.specs.Theorems.{Handed, program, parcel, report_for, add_all, freedom_for, freedom_at}
use Rattle.totals.specs.Theorems.{is_accepted, counts_program, counts_content, is_freedom, CountedExactly}
use Rattle.totals.specs.Theorems.{LargestAt, LargestOf, Totalled, TotalsOfList}
use Rattle.totals.proofs.Fractions.{still_less}

-- one more at the end
abbrev longer : List Handed → Handed → List Handed
longer xs x = xs ++ x ∷ []

-- ---- every freedom fits
fits_each : (x : Handed) → Fits (report_for x)
fits_each (program t memory n edges) = freedoms_fit.of_program t memory n edges
fits_each (parcel t bytes) = freedoms_fit.of_parcel t bytes

fits_at : (xs : List Handed) (i c d : ℕ) → freedom_at xs i ≡ Some (freedom c d) → FreedomFits c d
fits_at [] i c d e = clash (cc)
fits_at (x ∷ xs) zero c d e = fits_each x c d e
fits_at (x ∷ xs) (suc i) c d e = fits_at xs i c d e

both_small : (f : Option Freedom) → ((c d : ℕ) → f ≡ Some (freedom c d) → FreedomFits c d) → (numerator_of f < 2 ^ 32) × (denominator_of f < 2 ^ 32)
both_small None h = (omega arith, omega arith)
both_small (Some f) h = ((h f.edges f.possible refl).edges_fit, (h f.edges f.possible refl).possible_fit)

-- ---- sums
abbrev sum_of : (Option Freedom → ℕ) → List Handed → ℕ
sum_of part xs = sum (map (λ x. part (freedom_for x)) xs)

sum_more : (part : Option Freedom → ℕ) (xs : List Handed) (x : Handed) → sum_of part (longer xs x) ≡ sum_of part xs + part (freedom_for x)
unfolding sum
sum_more part [] x = omega arith
sum_more part (y ∷ ys) x = omega (arith, sum_more part ys x)

sum_small : (part : Option Freedom → ℕ) → ((x : Handed) → part (freedom_for x) < 2 ^ 32) → (xs : List Handed)
    → sum_of part xs ≤ length xs * 2 ^ 32
unfolding sum
sum_small part h [] = omega arith
sum_small part h (x ∷ xs) = omega (arith, h x, sum_small part h xs)

-- ---- the totals go by the freedom alone, since a refused one has none
abbrev ByFreedom : Totals → Report → Type 0
ByFreedom t r = (add_one t r).totals ≡ (add_freedom t (freedom_in r)).totals

program_by : (t : Totals) (q : Technique) (memory : List ℕ) (n : ℕ) (edges : List ℕ) → ByFreedom t (report_of q memory n edges)
unfolding report_of
program_by t q memory n edges = go (verdict_of q memory n edges)
  where
    go : (v : Verdict) → ByFreedom t (report_by v (figures_of memory n edges))
    go (Ok x) = refl
    go (Err f) = refl

content_by : (t : Totals) (q : Technique) (content : Content) → ByFreedom t (content_report q content)
unfolding content_report
content_by t q (holds code edges words) = program_by t q (code ++ words) (length code) edges
content_by t q (refused why) = refl

by_freedom : (t : Totals) (x : Handed) → ByFreedom t (report_for x)
by_freedom t (program q memory n edges) = program_by t q memory n edges
by_freedom t (parcel q bytes) = content_by t q (read_of 2 bytes)

-- ---- which are counted
program_counted : (q : Technique) (memory : List ℕ) (n : ℕ) (edges : List ℕ)
    → is_freedom (freedom_in (report_of q memory n edges)) ≡ counts_program q memory n edges
unfolding report_of figures_of
program_counted q memory n edges = go (verdict_of q memory n edges)
  where
    by : (b : Bool) (c d : ℕ) → is_freedom (cond b None (Some (freedom c d))) ≡ not b
    by true c d = refl
    by false c d = refl

    go : (v : Verdict)
        → is_freedom (freedom_in (report_by v (figures_of memory n edges))) ≡ (is_accepted v && not (eqb (words_of_kind memory n Kind.Jmp) 0))
    go (Ok x) = by (eqb (words_of_kind memory n Kind.Jmp) 0) _ _
    go (Err f) = refl

content_counted : (q : Technique) (content : Content) → is_freedom (freedom_in (content_report q content)) ≡ counts_content q content
unfolding content_report
content_counted q (holds code edges words) = program_counted q (code ++ words) (length code) edges
content_counted q (refused why) = refl

pub counted_exactly : CountedExactly
counted_exactly (program q memory n edges) = program_counted q memory n edges
counted_exactly (parcel q bytes) = content_counted q (read_of 2 bytes)

-- ---- what stands at a place
at_place : (xs : List Handed) (x : Handed) (i : ℕ)
    → (freedom_at (longer xs x) i ≡ freedom_at xs i) ⊎ ((i ≡ length xs) × (freedom_at (longer xs x) i ≡ freedom_for x))
at_place [] x zero = inr (refl, refl)
at_place [] x (suc i) = inl refl
at_place (y ∷ ys) x zero = inl refl
at_place (y ∷ ys) x (suc i) = ⊎_elim (λ e. inl e) (λ e. inr (ap suc e.0, e.1)) (at_place ys x i)

at_end_lem : (xs : List Handed) (x : Handed) → freedom_at (longer xs x) (length xs) ≡ freedom_for x
at_end_lem [] x = refl
at_end_lem (y ∷ ys) x = at_end_lem ys x

module _ (xs : List Handed) (x : Handed) where
  old_or_new : (i c d : ℕ) → freedom_at (longer xs x) i ≡ Some (freedom c d)
      → (freedom_at xs i ≡ Some (freedom c d)) ⊎ ((i ≡ length xs) × (freedom_for x ≡ Some (freedom c d)))
  old_or_new i c d h = ⊎_elim (λ e. inl (sym e ∙ h)) (λ e. inr (e.0, sym e.1 ∙ h)) (at_place xs x i)

  -- ---- the largest: it stays, or the new one takes its place
  stays : (place a b : ℕ) → LargestAt xs place a b → ((c d : ℕ) → freedom_for x ≡ Some (freedom c d) → c * b ≤ a * d)
      → LargestAt (longer xs x) place a b
  stays place a b h less =
      record {
        within = omega (arith, h.within, length-append xs (x ∷ []));
        its_freedom =
            ⊎_elim (λ e. e ∙ h.its_freedom) (λ e. absurd (omega (arith, h.within, e.0))) (at_place xs x place);
        no_other_passes = λ i c d e.
            ⊎_elim (λ o. h.no_other_passes i c d o) (λ o. less c d o.1) (old_or_new i c d e);
        earlier_less = λ i c d l e.
            ⊎_elim (λ o. h.earlier_less i c d l o) (λ o. absurd (omega (arith, h.within, o.0))) (old_or_new i c d e);
      }

  takes : (c d : ℕ) → freedom_for x ≡ Some (freedom c d)
      → ((i e p : ℕ) → freedom_at xs i ≡ Some (freedom e p) → e * d < c * p) → LargestAt (longer xs x) (length xs) c d
  takes c d h less =
      record {
        within = omega (arith, length-append xs (x ∷ []));
        its_freedom = at_end_lem xs x ∙ h;
        no_other_passes = λ i e p q.
            ⊎_elim (λ o. le_of_lt (less i e p o)) (λ o.
            let y : e ≡ c = ap numerator_of (sym o.1 ∙ h) in
            let z : p ≡ d = ap denominator_of (sym o.1 ∙ h) in
            le_of_eq (cc)) (old_or_new i e p q);
        earlier_less = λ i e p l q. ⊎_elim (λ o. less i e p o) (λ o. absurd (omega (arith, o.0))) (old_or_new i e p q);
      }

  largest_more : (f : Freedom) → freedom_for x ≡ Some f → (l : Option Largest) → LargestOf xs l
      → LargestOf (longer xs x) (largest_after (length xs) f l)
  largest_more f h None none = takes f.edges f.possible h (λ i e p q. clash (cc (none i)))
  largest_more f h (Some old) found = go (ltb (old.freedom.edges * f.possible) (f.edges * old.freedom.possible)) refl
    where
      go : (t : Bool) → ltb (old.freedom.edges * f.possible) (f.edges * old.freedom.possible) ≡ t
          → LargestOf (longer xs x) (cond t (Some (largest_at (length xs) f)) (Some old))
      go true t =
          takes f.edges f.possible h
          (λ i e p q.
          still_less e p old.freedom.edges old.freedom.possible f.edges f.possible (fits_at xs i e p q).some_possible (found.no_other_passes i e p q) (ltb-true _ _ t))
      go false t =
          stays old.parcel old.freedom.edges old.freedom.possible found
          (λ e p q.
          let y : e ≡ f.edges = ap numerator_of (sym q ∙ h) in
          let z : p ≡ f.possible = ap denominator_of (sym q ∙ h) in
          rw (y, z) (ltb-false _ _ t))

  largest_passed : freedom_for x ≡ None → (l : Option Largest) → LargestOf xs l → LargestOf (longer xs x) l
  largest_passed h None none = λ i. ⊎_elim (λ e. e ∙ none i) (λ e. e.1 ∙ h) (at_place xs x i)
  largest_passed h (Some old) found = stays old.parcel old.freedom.edges old.freedom.possible found (λ c d q. clash (cc))

  -- ---- one more
  freedom_more : (t : Totals) → Totalled xs t → length xs < 65535 → (f : Option Freedom) → freedom_for x ≡ f
      → Totalled (longer xs x) (add_freedom t f).totals
  freedom_more t h l None e =
      record {
        all_placed = omega (arith, h.all_placed, length-append xs (x ∷ []));
        edges_added = omega (arith, h.edges_added, sum_more numerator_of xs x, ap numerator_of e);
        possible_added = omega (arith, h.possible_added, sum_more denominator_of xs x, ap denominator_of e);
        largest_found = largest_passed e t.largest h.largest_found;
      }
  freedom_more t h l (Some f) e =
      let fits = fits_each x f.edges f.possible e in
      let edges-low = sum_small numerator_of (λ y. (both_small (freedom_for y) (fits_each y)).0) xs in
      let possible-low = sum_small denominator_of (λ y. (both_small (freedom_for y) (fits_each y)).1) xs in
      rw
      (lt-ltb (t.edges + f.edges) (2 ^ 64) (omega (arith, h.edges_added)), lt-ltb (t.possible + f.possible) (2 ^ 64) (omega (arith, h.possible_added)))
      (record {
        all_placed = omega (arith, h.all_placed, length-append xs (x ∷ []));
        edges_added = omega (arith, h.edges_added, sum_more numerator_of xs x, ap numerator_of e);
        possible_added = omega (arith, h.possible_added, sum_more denominator_of xs x, ap denominator_of e);
        largest_found = rw h.all_placed (largest_more f e t.largest h.largest_found);
      })

  step : (t : Totals) → Totalled xs t → length xs < 65535
      → Totalled (longer xs x) (add_report t (report_for x)).totals
  unfolding add_report
  step t h l =
      rw (lt-ltb t.parcels 65535 (omega (arith, h.all_placed)))
      (subst (Totalled (longer xs x)) (sym (by_freedom t x)) (freedom_more t h l (freedom_for x) refl))

-- ---- all of them
steps : (xs done : List Handed) (t : Totals) → Totalled done t → length done + length xs ≤ 65535
    → Totalled (done ++ xs) (add_all t xs)
unfolding add_all
steps [] done t h l = rw append-nil h
steps (x ∷ xs) done t h l =
    rw (append_snoc done x xs) at
    (steps xs (longer done x) (add_report t (report_for x)).totals (step done x t h (omega arith))
    (omega (arith, length-append done (x ∷ []))))

pub totals_of_list : TotalsOfList
unfolding sum
totals_of_list xs l =
    steps xs [] fresh_totals
    (record { all_placed = refl; edges_added = refl; possible_added = refl; largest_found = λ i. refl })
    (omega arith)
