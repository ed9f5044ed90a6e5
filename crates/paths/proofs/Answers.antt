-- What is answered and put where the best path is known, or known to be none; and that the paths of the graph determine it.
use Rattle.std.proofs.Common.{ℕ, ◌<◌, ◌≤◌, ◌≡◌, refl, sym, ap, ◌∙◌, Bool, List, [], ◌∷◌, length, arith}
use mathlib.Core.Logic.{inl}
use Rattle.std.specs.Prelude.{Option, Some, None, Result, Ok, Err}
use Rattle.lists.specs.Places.{put_over}
use Rattle.lists.proofs.Bools.{clash}
use Rattle.answers.specs.declared.Refusal.{Refusal}
use Rattle.answers.specs.declared.Place.{Place}
use Rattle.answers.specs.declared.Fault.{Fault}
use Rattle.answers.specs.Faults.{fault, Verdict}
use Rattle.isa.specs.declared.Technique.{Technique}
use Rattle.graph.specs.Claim.{is_successor}
use Rattle.graph.specs.Paths.{Path}
use Rattle.checker.specs.Verdicts.{verdict_of}
use Rattle.paths.specs.Shortest.{PathTo, NoPath, Best, Route, InCode, Shortest, PathPut}
use Rattle.paths.specs.declared.program.Program.{Program}
use Rattle.paths.specs.Inside.{PutAt, follows_in}
use Rattle.paths.specs.Theorems.{OneAnswer, StartAlone}
use Rattle.paths.proofs.Orders.{longer, one_best}
use Rattle.paths.proofs.Trails.{path_some}
use Rattle.paths.proofs.Accepted.{searchable}

module _ (program : Program) (address : ℕ) (place : List ℕ) where
  pub unreachable : NoPath (follows_in program) address → PutAt program address place (Ok None) place
  unreachable none = record { route = Ok None; right = InCode.Unreachable none; answer = refl; place_after = refl }

  pub too_short : (way : List ℕ) (k : ℕ) → Best (follows_in program) address way → k ≡ length way → length place < k
      → PutAt program address place (Err (fault Refusal.PlaceTooShort Place.Nowhere)) place
  too_short way k best e l =
      record {
        route = Err (fault Refusal.PlaceTooShort Place.Nowhere);
        right = InCode.TooShort way best (omega (arith, e, l));
        answer = refl;
        place_after = refl;
      }

  pub found : (way : List ℕ) (k : ℕ) {place' : List ℕ} → Best (follows_in program) address way → k ≡ length way → k ≤ length place
      → place' ≡ put_over way place → PutAt program address place (Ok (Some k)) place'
  found way k best e l p =
      record {
        route = Ok (Some way);
        right = InCode.Found way best (omega (arith, e, l));
        answer = ap (λ (x : ℕ). Ok (Some x)) e;
        place_after = p;
      }

  pub inside_code : (t : Technique) {r : Result (Option ℕ) Fault} {place' : List ℕ}
      → verdict_of t program.memory.now program.n program.edges.now ≡ Ok tt → address < program.n → PutAt program address place r place'
      → PathPut t program.memory.now program.n program.edges.now address place r place'
  inside_code t ok l p = record { route = p.route; right = Shortest.Inside ok l p.right; answer = p.answer; place_after = p.place_after }

module _ (t : Technique) (memory : List ℕ) (n : ℕ) (edges : List ℕ) (address : ℕ) (place : List ℕ) where
  pub refused : {verdict : Verdict} {why : Fault} → verdict ≡ verdict_of t memory n edges → verdict ≡ Err why
      → PathPut t memory n edges address place (Err why) place
  refused {why = why} e f = record { route = Err why; right = Shortest.Refused why (sym e ∙ f); answer = refl; place_after = refl }

  pub outside_code : verdict_of t memory n edges ≡ Ok tt → n ≤ address
      → PathPut t memory n edges address place (Err (fault Refusal.OutsideCode Place.Nowhere)) place
  outside_code ok l =
      record {
        route = Err (fault Refusal.OutsideCode Place.Nowhere);
        right = Shortest.Outside ok l;
        answer = refl;
        place_after = refl;
      }

-- an address of the code has one answer
one_in_code : {memory : List ℕ} {n : ℕ} {edges : List ℕ} {address room : ℕ} {a b : Route} → InCode memory n edges address room a
    → InCode memory n edges address room b → a ≡ b
one_in_code (InCode.Unreachable none) (InCode.Unreachable none') = refl
one_in_code (InCode.Unreachable none) (InCode.TooShort q c h) = absurd (none q c.path)
one_in_code (InCode.Unreachable none) (InCode.Found q c h) = absurd (none q c.path)
one_in_code (InCode.TooShort p b l) (InCode.Unreachable none) = absurd (none p b.path)
one_in_code (InCode.TooShort p b l) (InCode.TooShort q c h) = refl
one_in_code {memory} {n} {edges} {address} (InCode.TooShort p b l) (InCode.Found q c h) =
    clash (omega (arith, l, h, ap length (one_best (is_successor memory n edges) address b c)))
one_in_code (InCode.Found p b l) (InCode.Unreachable none) = absurd (none p b.path)
one_in_code {memory} {n} {edges} {address} (InCode.Found p b l) (InCode.TooShort q c h) =
    clash (omega (arith, l, h, ap length (one_best (is_successor memory n edges) address b c)))
one_in_code {memory} {n} {edges} {address} (InCode.Found p b l) (InCode.Found q c h) =
    ap (λ (way : List ℕ). Ok (Some way)) (one_best (is_successor memory n edges) address b c)

pub one_answer : OneAnswer
one_answer t memory n edges address room a b x y = go x y
  where
    go : {a b : Route} → Shortest t memory n edges address room a → Shortest t memory n edges address room b → a ≡ b
    go (Shortest.Refused f e) (Shortest.Refused g h) = let same : f ≡ g = cc in ap Err same
    go (Shortest.Refused f e) (Shortest.Outside ok l) = clash (cc)
    go (Shortest.Refused f e) (Shortest.Inside ok l r) = clash (cc)
    go (Shortest.Outside ok l) (Shortest.Refused g h) = clash (cc)
    go (Shortest.Outside ok l) (Shortest.Outside ok' l') = refl
    go (Shortest.Outside ok l) (Shortest.Inside ok' l' r) = clash (omega (arith, l, l'))
    go (Shortest.Inside ok l r) (Shortest.Refused g h) = clash (cc)
    go (Shortest.Inside ok l r) (Shortest.Outside ok' l') = clash (omega (arith, l, l'))
    go (Shortest.Inside ok l r) (Shortest.Inside ok' l' s) = one_in_code r s

-- a path of one address begins where it ends
alone : {follows : ℕ → ℕ → Bool} {a : ℕ} {way : List ℕ} → PathTo follows a way → length way ≡ 1 → way ≡ 0 ∷ []
alone Path.Start e = refl
alone (Path.On {q = q} {way = way} p f) e = clash (omega (arith, e, longer way q, path_some p))

pub start_alone : StartAlone
start_alone t memory n edges room ok l =
    Shortest.Inside ok (searchable t memory n edges ok).sized.some_code
    (InCode.Found (0 ∷ [])
    (record { path = Path.Start; fewest = λ other p. path_some p; lowest = λ other p e. inl (alone p e) })
    l)
