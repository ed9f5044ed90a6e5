-- The order of the numbers, by computation: definitions unfolded, both sides are the same.
use mathlib.Core.Path.{refl}
use Rattle.lists.specs.Search.{lowest, any}
use Rattle.isa.specs.Words.{decode_of, encode_of, word_of}
use Rattle.graph.specs.Claim.{is_edge, has_edge, is_destination, id_of}
use Rattle.guards.specs.Sequences.{fits, stands_at, ends_at}
use Rattle.checker.specs.Verdicts.{first_broken, verdict_of}
use Rattle.checker.specs.Examples.{OrderShown}

pub order_shown : OrderShown
unfolding verdict_of first_broken lowest any is_edge has_edge is_destination id_of decode_of encode_of word_of fits stands_at ends_at
order_shown =
    record {
      six = refl;
      seven = refl;
      eight = refl;
      eighteen = refl;
      nine = refl;
      ten = refl;
      eleven = refl;
      twelve = refl;
      thirteen = refl;
      fourteen = refl;
    }
