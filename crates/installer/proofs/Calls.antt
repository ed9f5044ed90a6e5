-- The call, from what `rewrite` answers over the part of the place for the code that it may use: all of it, or none.
use Prim.Native.Nat.{ℕ, ◌-◌}
use mathlib.Core.Path.{◌≡◌, refl, ◌∙◌}
use mathlib.Core.Bool.{true, false, cond, ◌||◌}
use mathlib.Core.List.{List, [], ◌++◌}
use native.Mathlib.Omega.{arith}
use lib.ListN.{length, take, drop}
use borrow.Author.Tests.{lt-ltb}
use Rattle.lists.specs.Places.{shorter}
use Rattle.lists.proofs.Bools.{or_right}
use Rattle.answers.specs.declared.Refusal.{Refusal}
use Rattle.answers.specs.declared.Place.{Place}
use Rattle.answers.specs.Faults.{fault, Verdict}
use Rattle.std.specs.Prelude.{Ok, Err}
use Rattle.isa.specs.declared.Technique.{Technique}
use Rattle.guarded.specs.Rewrite.{Guarded}
use Rattle.guarded.specs.Rules.{bare_verdict_of}
use Rattle.guarded.proofs.Places.{code_length}
use Rattle.rewrite.specs.Answers.{Answer, places_short, answer_of, plain_of, RewrittenSo}
use Rattle.capi.proofs.Rooms.{Careful, none_or_all, kept_either}
use Rattle.installer.specs.Calls.{RewriteCall}
use Rattle.installer.specs.Inside.{RewrittenPut}

-- where no part of the place may be used, the answer is that to a place that is too short
careful : (verdict : Verdict) (new : Guarded) (edges entries : List ℕ) → places_short new [] edges entries ≡ true
    → Careful (λ short. answer_of short verdict new) (places_short new [] edges entries)
careful (Ok _) new edges entries e = record { why = fault Refusal.PlaceTooShort Place.Nowhere; refuses = refl; as_short = rw e }
careful (Err why) new edges entries e = record { why = why; refuses = refl; as_short = refl }

-- no code has no word, so no part of the place is too short a place
no_room : (memory : List ℕ) (n : ℕ) (edges new_edges entries : List ℕ) → places_short (plain_of memory n edges) [] new_edges entries ≡ true
no_room memory n edges new_edges entries =
    rw (lt-ltb 0 (length (plain_of memory n edges).code) (omega (arith, code_length Technique.Plain memory n edges (length memory - n))))

module _ {memory : List ℕ} {n : ℕ} {edges code new_edges entries counts place : List ℕ} {answer : Answer} {r : ℕ} {new_edges' entries' counts' place' : List ℕ}
    (put : RewrittenPut answer counts place r counts' place') where
  none_put : {part : List ℕ} → (shorter place 2 || shorter counts 2) ≡ true → RewrittenSo memory n edges [] new_edges entries answer part new_edges' entries'
      → RewriteCall memory n edges code new_edges entries counts place r (part ++ code) new_edges' entries' counts' place'
  none_put short p =
      let care = careful (bare_verdict_of Technique.Plain memory n edges) (plain_of memory n edges) new_edges entries (no_room memory n edges new_edges entries) in
      let is : answer ≡ Err care.why = p.answers ∙ care.as_short ∙ care.refuses in
      record {
        answer = put.answer ∙ rw (short, care.refuses, is);
        leaves =
            rw (short, care.refuses)
            (record {
              code_after = rw (p.code_after, is);
              edges_after = p.edges_after ∙ rw is;
              entries_after = p.entries_after ∙ rw is;
              counts_after = put.counts_after ∙ rw is (kept_either (shorter counts 2) counts);
              place_after = put.place_after ∙ rw is;
            });
      }

  all_put : {code' : List ℕ} → (shorter place 2 || shorter counts 2) ≡ false → RewrittenSo memory n edges code new_edges entries answer code' new_edges' entries'
      → RewriteCall memory n edges code new_edges entries counts place r code' new_edges' entries' counts' place'
  all_put room p =
      record {
        answer = put.answer ∙ rw (room, p.answers);
        leaves =
            rw (room, ← p.answers)
            (record {
              code_after = p.code_after;
              edges_after = p.edges_after;
              entries_after = p.entries_after;
              counts_after = put.counts_after ∙ rw (or_right (shorter place 2) (shorter counts 2) room);
              place_after = put.place_after;
            });
      }

  pub call_done : {room : ℕ} {part : List ℕ} → room ≡ cond (shorter place 2 || shorter counts 2) 0 (length code)
      → RewrittenSo memory n edges (take room code) new_edges entries answer part new_edges' entries'
      → RewriteCall memory n edges code new_edges entries counts place r (part ++ drop room code) new_edges' entries' counts' place'
  call_done e p =
      none_or_all (λ (x y : List ℕ). RewrittenSo memory n edges x new_edges entries answer y new_edges' entries')
      (λ (x : List ℕ). RewriteCall memory n edges code new_edges entries counts place r x new_edges' entries' counts' place') (shorter place 2 || shorter counts 2)
      e p none_put all_put
