-- `BareCode::put_labels` meets its contract: one address more puts one entry, and a label where an ID owns the address (`Labelling`).
use mathlib.Core.Path.{refl}
use native.Mathlib.Omega.{arith}
use Rattle.rewrite.proofs.Labelling.{labelling_none, label_room, labelling_more, labelling_bare}
use Rattle.rewrite.proofs.given.BareCode.put_labels.Goals.{then-owner-self, else-owner-self}
use Rattle.rewrite.proofs.given.BareCode.put_labels.Goals as goal

pub loop-a-init : goal.loop-a-init
loop-a-init c = labelling_none _ _ _ _ _ _

pub bounds-code-at : goal.bounds-code-at
bounds-code-at c =
    let b = c.args.self.now.passed in
    let q = c.requires in
    omega (arith, c.loop-a.invariant.long, q.2, label_room _ _ _ _ _ _ q.0 q.1 q.2 b.total_is c.loop-a.invariant c.loop-a-test.true)

pub loop-a-preserved : goal.loop-a-preserved
loop-a-preserved c =
    let b = c.args.self.now.passed in
    let q = c.requires in
    elim c.if-owner-self.branch [
      | then-owner-self w ↦
          rw (w.code-is, w.at-is)
          (labelling_more _ _ _ _ _ _ q.0 q.1 q.2 b.total_is c.loop-a.invariant c.loop-a-test.true c.from-owner.result refl c.from-owner.ensures
          w.if-owner-self.true w.label_word.ensures c.body_size-at.ensures)
      | else-owner-self w ↦
          rw (w.code-is, w.at-is)
          (labelling_bare _ _ _ _ _ _ q.0 q.1 q.2 b.total_is c.loop-a.invariant c.loop-a-test.true c.from-owner.result refl c.from-owner.ensures
          w.if-owner-self.false c.body_size-at.ensures)
    ]
