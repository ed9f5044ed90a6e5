-- By what `put_register` ensures (`Lent`).
use Rattle.bus.proofs.Lent.{lent_written}
use Rattle.bus.proofs.write_register_lent.Goals as goal

pub returns : goal.returns
returns c = lent_written c.if-state-lt-STATE_WORDS.false c.put_register.ensures
