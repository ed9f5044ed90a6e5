-- By what `put_register` ensures (`Lent`).
use Rattle.bus.proofs.Lent.{register_written}
use Rattle.bus.proofs.write_register.Goals as goal

pub returns : goal.returns
returns c = register_written c.put_register-answer.ensures
