-- `passes::Code::figures` meets its contract: what the passes answer, put together.
use Rattle.report.proofs.Sets.{figures_read_lem}
use Rattle.report.proofs.passes.Code.figures.Goals as goal

pub returns : goal.returns
returns c =
    figures_read_lem _ _ _ c.count_words-kinds.ensures c.how_many.ensures c.highest.ensures c.freedom_of.ensures
