-- The examples, by computation: definitions unfolded, both sides are the same.
use mathlib.Core.Path.{refl}
use Rattle.lists.specs.Search.{lowest, any}
use Rattle.isa.specs.Words.{decode_of, encode_of, word_of}
use Rattle.graph.specs.Claim.{is_edge, has_edge, is_destination, id_of}
use Rattle.checker.specs.Verdicts.{first_broken}
use Rattle.guarded.specs.Blocks.{start_of, laid}
use Rattle.guarded.specs.Rewrite.{block_at, new_edge}
use Rattle.guarded.specs.Rules.{bare_verdict_of}
use Rattle.guarded.specs.Examples.{RewritesShown}

pub rewrites_shown : RewritesShown
unfolding bare_verdict_of first_broken start_of laid block_at new_edge lowest any is_edge has_edge is_destination id_of decode_of encode_of word_of
rewrites_shown =
    record {
      post_rewritten = refl;
      plain_rewritten = refl;
      guarded_rewritten = refl;
      call_rewritten = refl;
      post_passes = refl;
      store_passes = refl;
      call_passes = refl;
    }
