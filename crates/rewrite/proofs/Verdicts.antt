-- From a verdict to the answer: what is known of bare code that no number up to 22 turns away, and what 5 and the end of the writing come
-- to.
use Prim.Native.Nat.{ℕ, ◌-◌, ◌%◌, ◌≤◌}
use mathlib.Core.Path.{◌≡◌, refl, sym, ◌∙◌}
use mathlib.Core.Bool.{Bool, true, false, ◌||◌}
use mathlib.Core.List.{List}
use native.Mathlib.Omega.{arith}
use lib.Dec.{ltb, leb, eqb}
use lib.ListN.{length}
use lib.Seq.{sets}
use borrow.Author.Tests.{eqb-true, ltb-false}
use Rattle.lists.proofs.Bools.{and_left, and_right, or_left, or_right}
use Rattle.lists.proofs.Search.{lowest_ext}
use Rattle.lists.proofs.Places.{over_front}
use Rattle.answers.specs.declared.Refusal.{Refusal}
use Rattle.answers.specs.declared.Place.{Place}
use Rattle.std.specs.Prelude.{Ok, Err}
use Rattle.answers.specs.Faults.{fault}
use Rattle.answers.specs.Shape.{memory_shaped, edges_shaped}
use Rattle.isa.specs.declared.Technique.{Technique}
use Rattle.graph.specs.Claim.{is_edge, id_of}
use Rattle.graph.specs.Passes.{Within}
use Rattle.graph.proofs.Edges.{within_of, edge_below}
use Rattle.graph.proofs.Apart.{apart_one}
use Rattle.checker.proofs.Rules.{sized, few_edges}
use Rattle.checker.proofs.Faultless.{ClaimFaultless, claim_passed}
use Rattle.guarded.specs.Rules.{word_rules, length_rule, bare_verdict_of}
use Rattle.guarded.proofs.Blocks.{ones_length}
use Rattle.guarded.proofs.Places.{code_length}
use Rattle.guarded.proofs.Claims.{edges_length}
use Rattle.rewrite.specs.Answers.{places_short, Put, plain_of}
use Rattle.rewrite.proofs.Laying.{over_front_put}
use Rattle.rewrite.specs.Inside.{OneId, Bare, LabelsIn, OwnersIn, length_plain, code_plain, edges_plain, entries_plain, map_plain}

module _ (memory : List ℕ) (n : ℕ) (edges : List ℕ) where
  one_id : ClaimFaultless memory n edges → Within edges n → OneId edges n
  unfolding id_of
  one_id f w i j a ia ja =
      let p = edge_below edges n w i a ia in
      let q = edge_below edges n w j a ja in
      lowest_ext (is_edge edges i) (is_edge edges j) n (apart_one edges n i j q.0 (f.sets_apart i p.0) a p.1 ia ja)

  pub bare_of : {total : ℕ} → bare_verdict_of Technique.Plain memory n edges ≡ Ok tt → total ≡ length_plain memory n edges → Bare memory n edges total
  unfolding bare_verdict_of
  bare_of e t =
      let p = claim_passed memory n edges (word_rules memory n (length_rule Technique.Plain memory n edges)) e in
      let f = p.0 in
      let m = and_left (memory_shaped (length memory) n) (edges_shaped (length edges)) f.shape in
      let g = and_right (memory_shaped (length memory) n) (edges_shaped (length edges)) f.shape in
      let even = eqb-true (length edges % 2) 0 (and_left (eqb (length edges % 2) 0) (leb (length edges) 4096) g) in
      let s = sized memory n m in
      let w = within_of memory edges n s.code_limit (few_edges (length edges) g) f.edges_start f.edges_end in
      record {
        sized = s;
        even = omega arith;
        within = w;
        from_jumps = f.edges_start;
        rising = f.edges_rise;
        leaving = f.jumps_leave;
        one_id = one_id f w;
        branches = p.1.1.0;
        total_is = t;
        short = omega (arith, t, ltb-false 2048 (length_plain memory n edges) (p.1.1.1.0 0 (omega arith)));
      }

-- the two places that held something else before are as if they had not
pub code_over : {memory : List ℕ} {n : ℕ} {edges : List ℕ} {total : ℕ} {labelled code : List ℕ} → Bare memory n edges total
    → LabelsIn memory n edges total labelled code → total ≤ length code
    → sets labelled 0 (code_plain memory n edges) ≡ sets code 0 (code_plain memory n edges)
code_over {memory} {n} {edges} {total} {labelled} {code} b x l =
    over_front_put (code_plain memory n edges) labelled code total (code_length Technique.Plain memory n edges (length memory - n) ∙ sym b.total_is) x.long x.past l

pub entries_over : (memory : List ℕ) {n : ℕ} {edges owners entries : List ℕ} → OwnersIn n edges owners entries → n ≤ length entries
    → sets owners 0 (entries_plain memory n edges) ≡ sets entries 0 (entries_plain memory n edges)
entries_over memory {n} {edges} {owners} {entries} x l = over_front_put (entries_plain memory n edges) owners entries n (ones_length (map_plain memory n edges) n) x.long x.past l

-- 5, and the three places written
module _ {memory : List ℕ} {n : ℕ} {edges : List ℕ} {total : ℕ} (b : Bare memory n edges total) (code new_edges entries : List ℕ) where
  short_is : places_short (plain_of memory n edges) code new_edges entries
      ≡ (ltb (length code) total || (ltb (length new_edges) (length edges) || ltb (length entries) n))
  short_is =
      rw (
        code_length Technique.Plain memory n edges (length memory - n),
        edges_length Technique.Plain memory edges,
        ones_length (map_plain memory n edges) n,
        b.total_is,
        ← b.even,
      )

  abbrev short : Bool
  short = ltb (length code) total || (ltb (length new_edges) (length edges) || ltb (length entries) n)

  pub short_put : short ≡ true
      → Put (Ok tt) (plain_of memory n edges) code new_edges entries (Err (fault Refusal.PlaceTooShort Place.Nowhere)) code new_edges entries
  short_put h = record { answers = rw (short_is ∙ h); code_after = refl; edges_after = refl; entries_after = refl }

  pub places_long : short ≡ false → (total ≤ length code) × (length edges ≤ length new_edges) × (n ≤ length entries)
  places_long none =
      let rest = or_right (ltb (length code) total) _ none in (
        ltb-false (length code) total (or_left _ _ none),
        ltb-false (length new_edges) (length edges) (or_left _ _ rest),
        ltb-false (length entries) n (or_right (ltb (length new_edges) (length edges)) _ rest),
      )

  pub all_put : short ≡ false → {code' new_edges' entries' : List ℕ} → code' ≡ sets code 0 (code_plain memory n edges)
      → new_edges' ≡ sets new_edges 0 (edges_plain memory n edges) → entries' ≡ sets entries 0 (entries_plain memory n edges)
      → Put (Ok tt) (plain_of memory n edges) code new_edges entries (Ok (record { code = total; edges = length edges })) code' new_edges' entries'
  all_put h ec ee em =
      let long = places_long h in
      let cl = code_length Technique.Plain memory n edges (length memory - n) in
      let el = edges_length Technique.Plain memory edges in
      let ml = ones_length (map_plain memory n edges) n in
      let t = b.total_is in
      let ev = b.even in
      record {
        answers = rw (short_is ∙ h) (rw (cl, el, ← t, ← ev));
        code_after = ec ∙ over_front (code_plain memory n edges) code (omega arith);
        edges_after = ee ∙ over_front (edges_plain memory n edges) new_edges (omega arith);
        entries_after = em ∙ over_front (entries_plain memory n edges) entries (omega arith);
      }
