-- `Layout::put_word` meets its contract: the word moved, or the word, where its block ends (`Bodies`).
use Rattle.std.proofs.Common.{rules}
use native.Mathlib.Omega.{arith}
use Rattle.rewrite.proofs.Bodies.{target_below, branch_put}
use Rattle.rewrite.proofs.Layout.put_word.Goals as goal

pub bounds-self-w : goal.bounds-self-w
bounds-self-w c =
    let s = c.args.self.now in
    rw c.of_word-w.ensures (omega (arith, target_below s.bare.passed c.requires.0 (search rules), s.mapped.long))

pub returns-then-is_branch : goal.returns-then-is_branch
returns-then-is_branch c =
    let s = c.args.self.now in
    rw (c.from-then-is_branch.ensures, c.from.ensures, c.of_word-w.ensures)
    (branch_put s.bare.passed c.requires.0 c.args.code.now c.block_end-end.result s.mapped (search rules) c.block_end-end.ensures.0)
