-- `is_a` meets its contract where the opcode is another: a word's kind is that of its highest byte.
use Rattle.std.proofs.Common.{rules, ◌≡◌, ◌∙◌, false, ◌/◌, ◌^◌}
use Rattle.std.specs.Prelude.{eqb}
use borrow.Author.Tests.{ne_eqb}
use Rattle.isa.specs.Words.{opcode_of}
use Rattle.isa.proofs.ByKind.{other_opcode}
use Rattle.isa.proofs.is_a.Goals as goal

pub returns-else-from-word : goal.returns-else-from-word
returns-else-from-word c =
    let o : c.from.result ≡ opcode_of c.args.kind = search rules in
    let f : eqb (opcode_of c.args.kind) (c.args.word / 2 ^ 56) ≡ false = ne_eqb _ _ (λ e. c.if-from-word.false (o ∙ e)) in
    rw o (other_opcode c.args.kind c.args.word f)
