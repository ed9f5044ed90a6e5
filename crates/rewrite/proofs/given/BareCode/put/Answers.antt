-- `BareCode::put` meets its contract: the place of the map holds the owners first, and the code's place the labels; what is put over both
-- is put over what was there before them (`Laying`, `Verdicts`).
use mathlib.Core.Path.{ap, ◌∙◌}
use native.Mathlib.Omega.{arith}
use Rattle.isa.specs.declared.Technique.{Technique}
use Rattle.guards.specs.Patterns.{jump_words}
use Rattle.rewrite.proofs.Laying.{mapped_by}
use Rattle.rewrite.proofs.Verdicts.{places_long, code_over, entries_over, all_put}
use Rattle.rewrite.proofs.given.BareCode.put.Goals as goal

pub invariant_of-layout : goal.invariant_of-layout
invariant_of-layout c =
    let b = c.args.self.now.passed in
    let long = places_long b _ _ _ c.if-short.false in
    record {
      mapped = mapped_by c.put_owners.new.map c.put_labels.ensures.map (omega (arith, long.2, c.put_owners.ensures.long));
      guard = c.jump_words-words.ensures ∙ ap (jump_words Technique.Plain) (omega (arith, b.total_is));
    }

pub returns : goal.returns
returns c =
    let b = c.args.self.now.passed in
    let long = places_long b _ _ _ c.if-short.false in
    all_put b _ _ _ c.if-short.false
    (c.put_blocks.ensures.code ∙ code_over b c.put_labels.ensures.code long.0)
    c.put_blocks.ensures.edges
    (c.put_labels.ensures.map ∙ entries_over c.args.self.now.memory.now c.put_owners.ensures long.2)
