-- `Layout::block_end` meets its contract: behind the last block comes the illegal word (`Bodies`).
use Rattle.std.proofs.Common.{rules}
use Rattle.rewrite.proofs.Bodies.{ends}
use Rattle.rewrite.proofs.Layout.block_end.Goals as goal

pub returns-then-a-self : goal.returns-then-a-self
returns-then-a-self c = ends c.args.self.now.bare.passed c.requires (search rules)

pub returns-else-a-self : goal.returns-else-a-self
returns-else-a-self c = ends c.args.self.now.bare.passed c.requires (search rules)
