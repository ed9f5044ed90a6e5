-- `edges::jumps_with_edges` meets its contract: what the test says at each address, the edges passed with it, and one jmp more.
use mathlib.Core.Path.{sym, ap, ◌∙◌}
use native.Mathlib.Omega.{arith}
use borrow.Author.Tests.{eq-eqb, ne_eqb}
use Rattle.rising.proofs.Rising.{clean_rising}
use Rattle.lists.specs.Search.{bit, count}
use Rattle.lists.proofs.Search.{clean_more}
use Rattle.lists.proofs.First.{first_at}
use Rattle.lists.proofs.Counts.{count_more, count_max}
use Rattle.checker.specs.Ends.{is_jump_at}
use Rattle.checker.specs.Passes.{unless_some}
use Rattle.checker.proofs.Runs.{lacks, cut_past, cut_run}
use Rattle.checker.proofs.edges.jumps_with_edges.Goals as goal

pub loop-a-preserved-then-not-is_at : goal.loop-a-preserved-then-not-is_at
loop-a-preserved-then-not-is_at c =
    let claim = c.args.claim.now in
    let rising = clean_rising claim.edges.now claim.claimed.rising in
    let no = sym c.is_at.ensures ∙ c.if-not-is_at.true in (
      clean_more _ _ c.loop-a.invariant.0 (rw no),
      cut_past _ rising claim.code.memory.now claim.code.n _ _ claim.claimed.from_jumps no c.loop-a.invariant.1,
      omega (arith, c.loop-a.invariant.2, ap bit no, count_more (is_jump_at claim.code.memory.now) c.loop-a.a),
    )

pub returns-then-end-k : goal.returns-then-end-k
returns-then-end-k c =
    let claim = c.args.claim.now in
    ap (unless_some (count (is_jump_at claim.code.memory.now) claim.code.n))
    (first_at _ _ _ c.loop-a-test.true c.loop-a.invariant.0
    (lacks _ (clean_rising _ claim.claimed.rising) claim.code.memory.now _ _ _ c.loop-a.invariant.1 c.run_end-end.ensures
    (sym c.is_at.ensures ∙ c.if-not-is_at.false) ∙ eq-eqb _ _ c.if-end-k.true))

pub overflow_add-jumps : goal.overflow_add-jumps
overflow_add-jumps c =
    let claim = c.args.claim.now in
    omega (arith, c.loop-a.invariant.2, count_max (is_jump_at claim.code.memory.now) c.loop-a.a, c.loop-a-test.true, claim.code.sized.code_limit)

pub loop-a-preserved : goal.loop-a-preserved
loop-a-preserved c =
    let claim = c.args.claim.now in
    let rising = clean_rising claim.edges.now claim.claimed.rising in
    let yes = sym c.is_at.ensures ∙ c.if-not-is_at.false in (
      clean_more _ _ c.loop-a.invariant.0
          (lacks _ rising claim.code.memory.now _ _ _ c.loop-a.invariant.1 c.run_end-end.ensures yes ∙ ne_eqb _ _ c.if-end-k.false),
      cut_run _ rising _ _ _ c.loop-a.invariant.1 c.run_end-end.ensures,
      omega (arith, c.loop-a.invariant.2, ap bit yes, count_more (is_jump_at claim.code.memory.now) c.loop-a.a),
    )
