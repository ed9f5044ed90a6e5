-- `Layout::put_blocks` meets its contract: block after block, with the edges passed that start below.
use Rattle.isa.specs.declared.Technique.{Technique}
use Rattle.checker.proofs.Runs.{Cut}
use Rattle.guarded.specs.Rewrite.{new_edge}
use Rattle.rewrite.specs.Inside.{Putting, block_plain}
use Rattle.rewrite.proofs.Layout.put_blocks.Given as goal

abbrev pub invariant-loop-a : goal.invariant-loop-a
invariant-loop-a l =
    Putting (block_plain l.self.bare.memory.now l.self.bare.n l.self.bare.edges.now) l.initial.code l.code l.a
    × Cut l.self.bare.edges.now l.a l.k
    × Putting (new_edge Technique.Plain l.self.bare.memory.now l.self.bare.edges.now) l.initial.new_edges l.new_edges l.k
