-- `passes::Code::count_words` meets its contract: each word counts once in each array.
use native.Mathlib.Omega.{arith}
use Rattle.isa.specs.Instructions.{instr_at, label_number}
use Rattle.report.specs.Inside.{label_at, set_number, set_at}
use Rattle.report.proofs.Sums.{times_room, times_next}
use Rattle.report.proofs.passes.Code.count_words.Goals as goal

pub count_one-requires : goal.count_one-requires
count_one-requires c =
    let code = c.args.self.now in
    times_room (label_at code.memory.now code.n) _ code.n _ (omega (arith, code.readable.sized.code_limit)) c.loop-a.invariant.labels_counted

pub count_one-requires-in-loop-a : goal.count_one-requires-in-loop-a
count_one-requires-in-loop-a c =
    let code = c.args.self.now in
    times_room (set_at code.memory.now code.n) _ code.n _ (omega (arith, code.readable.sized.code_limit)) c.loop-a.invariant.jumps_counted

pub loop-a-preserved : goal.loop-a-preserved
loop-a-preserved c =
    let counted = c.loop-a.invariant in
    let memory = c.args.self.now.memory.now in
    record {
      kinds_counted = c.count_kind.ensures;
      labels_counted = times_next (λ i. label_number (instr_at memory i)) _ _ _ _ counted.labels_counted c.label_number.ensures c.count_one.ensures;
      jumps_counted = times_next (set_number memory) _ _ _ _ counted.jumps_counted c.set_number.ensures c.count_one-in-loop-a.ensures;
    }
