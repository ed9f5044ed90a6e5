-- `BareCode::put_owners` meets its contract: the first edge of a jump tells the ID of its set, which one edge more gives to its target
-- (`TargetSets`).
use Rattle.std.proofs.Common.{rules}
use mathlib.Core.Path.{sym, ◌∙◌}
use native.Mathlib.Omega.{arith}
use Rattle.std.specs.Prelude.{◌<◌}
use Rattle.graph.specs.Claim.{edge_count}
use Rattle.rising.proofs.Rising.{clean_rising}
use Rattle.rewrite.proofs.TargetSets.{id_first, id_same, owning_more, owning_all, owners_over}
use Rattle.rewrite.proofs.given.BareCode.put_owners.Goals.{then-is_first, else-is_first}
use Rattle.rewrite.proofs.given.BareCode.put_owners.Goals as goal

pub loop-k-preserved : goal.loop-k-preserved
loop-k-preserved c =
    let bare = c.args.self.now in
    let b = bare.passed in
    let l : c.loop-k.k < edge_count bare.edges.now = omega (arith, c.loop-k-test.true, c.count-k-end.ensures) in
    let t = c.target_of-t.ensures in
    elim c.if-is_first.branch [
      | then-is_first w ↦
          owning_more bare.edges.now bare.n b.within b.one_id l (search rules) c.loop-k.invariant t.is
          (w.id-is
          ∙ t.is
          ∙ id_first bare.edges.now bare.n (clean_rising bare.edges.now b.rising) b.within c.loop-k.k l (sym c.is_first.ensures ∙ w.if-is_first.true))
          (omega (arith, w.id-is, t.below))
      | else-is_first w ↦
          owning_more bare.edges.now bare.n b.within b.one_id l (search rules) c.loop-k.invariant t.is
          (w.id-is ∙ id_same bare.edges.now bare.n c.loop-k.invariant (sym c.is_first.ensures ∙ w.if-is_first.false))
          (omega (arith, w.id-is, c.loop-k.invariant.small))
    ]

pub returns : goal.returns
returns c =
    let bare = c.args.self.now in
    owners_over bare.edges.now bare.n c.fill.new.self (search rules) c.requires
    (owning_all bare.edges.now bare.n bare.passed.within (omega (arith, c.loop-k.auto, c.loop-k-test.false, c.count-k-end.ensures)) c.loop-k.invariant)
