-- The run over the registers, the pc, the depth and the stack in the lent words (`Lent`).
use Rattle.machine.proofs.Lent.{ran_lent}
use Rattle.machine.proofs.run_lent.Goals as goal

pub returns : goal.returns
returns c =
    let h = rw c.unwrap.ensures at c.split_first_chunk_mut.ensures.cases in
    let k = rw c.unwrap-2.ensures at c.split_first_chunk_mut-2.ensures.cases in
    let l = rw c.unwrap-3.ensures at c.split_first_chunk_mut-3.ensures.cases in
    rw (l.1, k.1, k.0, h.1) (ran_lent c.if-state-lt-STATE_WORDS.false (rw (l.0, k.1, h.1, h.0) at c.run_over.ensures))
