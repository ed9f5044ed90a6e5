-- `shortest_path` meets its contract: the checker's refusal first, then an address outside code (`Answers`).
use mathlib.Core.Path.{sym, ◌∙◌}
use Rattle.paths.proofs.Accepted.{searchable}
use Rattle.paths.proofs.Answers.{outside_code, inside_code}
use Rattle.paths.proofs.shortest_path.Goals as goal

pub returns-then-n-address : goal.returns-then-n-address
returns-then-n-address c =
    rw c.nowhere.ensures
    (outside_code c.args.technique c.args.memory.now c.args.n c.args.edges.now c.args.address c.args.place.now (sym c.check.ensures ∙ c.in_ok-check.was) c.if-n-address.true)

pub invariant_of-program : goal.invariant_of-program
invariant_of-program c =
    record { searchable = searchable c.args.technique c.args.memory.now c.args.n c.args.edges.now (sym c.check.ensures ∙ c.in_ok-check.was) }

pub returns : goal.returns
returns c = inside_code _ c.args.address c.args.place.now c.args.technique (sym c.check.ensures ∙ c.in_ok-check.was) c.if-n-address.false c.put_path_to.ensures
