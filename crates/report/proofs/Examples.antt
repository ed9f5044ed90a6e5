-- The examples, by computation.
use mathlib.Core.Path.{refl}
use Rattle.lists.specs.Search.{lowest, any, count}
use Rattle.isa.specs.Words.{decode_of, word_of, encode_of}
use Rattle.graph.specs.Claim.{is_edge, has_edge, is_destination, id_of}
use Rattle.guards.specs.Sequences.{fits, stands_at, ends_at}
use Rattle.guards.specs.Rules.{inside_jump_guard, inside_store_guard}
use Rattle.checker.specs.Verdicts.{first_broken, verdict_of}
use Rattle.report.specs.Figures.{words_of_kind, set_size, sets_of, highest, total, figures_of}
use Rattle.report.specs.Reports.{report_of}
use Rattle.report.specs.Examples.{ReportsShown}

pub reports_shown : ReportsShown
unfolding decode_of word_of encode_of verdict_of first_broken lowest any count is_edge has_edge is_destination id_of fits stands_at ends_at inside_jump_guard inside_store_guard words_of_kind set_size sets_of highest total figures_of report_of
reports_shown = record { post = refl; repeated = refl; shared = refl; turned = refl; refused = refl; returning = refl; halt = refl }
