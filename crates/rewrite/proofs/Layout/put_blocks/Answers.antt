-- `Layout::put_blocks` meets its contract: a jmp has the first edge that was not passed; one block more, and the illegal word (`Bodies`).
use mathlib.Core.Path.{refl, sym, ◌∙◌}
use native.Mathlib.Omega.{arith}
use Rattle.rewrite.proofs.Bodies.{starts_at, jump_here, cut_jump, cut_word, block_more, code_put}
use Rattle.rewrite.proofs.Layout.put_blocks.Goals.{then-starts, else-starts}
use Rattle.rewrite.proofs.Layout.put_blocks.Goals as goal

pub put_guard-requires : goal.put_guard-requires
put_guard-requires c =
    let h = c.loop-a.invariant in (
      c.loop-a-test.true,
      sym (jump_here c.args.self.now.bare.passed c.loop-a-test.true h.1) ∙ sym c.starts.ensures ∙ c.if-starts.true,
      starts_at c.args.self.now.bare.passed c.loop-a-test.true h.1,
      omega (arith, h.0.long, c.requires.1),
    )

pub put_word-requires : goal.put_word-requires
put_word-requires c =
    let h = c.loop-a.invariant in (
      c.loop-a-test.true,
      sym (jump_here c.args.self.now.bare.passed c.loop-a-test.true h.1) ∙ sym c.starts.ensures ∙ c.if-starts.false,
      omega (arith, h.0.long, c.requires.1),
    )

pub loop-a-preserved : goal.loop-a-preserved
loop-a-preserved c =
    let b = c.args.self.now.bare.passed in
    let h = c.loop-a.invariant in
    elim c.if-starts.branch [
      | then-starts w ↦
          rw (w.code-is, w.k-is, w.new_edges-is) (
            block_more b c.requires.0 c.requires.1 c.loop-a-test.true h.0 w.put_guard.ensures,
            cut_jump b h.1 w.run_end-end.ensures,
            w.put_edges.ensures.0 c.args.new_edges.now h.2,
          )
      | else-starts w ↦
          rw (w.code-is, w.k-is, w.new_edges-is) (
            block_more b c.requires.0 c.requires.1 c.loop-a-test.true h.0 w.put_word.ensures,
            cut_word b (sym (jump_here b c.loop-a-test.true h.1) ∙ sym c.starts.ensures ∙ w.if-starts.false) h.1,
            h.2,
          )
    ]

pub returns-clause-code : goal.returns-clause-code
returns-clause-code c =
    code_put c.args.self.now.bare.passed c.requires.0 c.requires.1 c.loop-a.invariant.0 (omega (arith, c.loop-a.auto, c.loop-a-test.false)) refl refl
