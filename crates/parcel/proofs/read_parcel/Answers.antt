-- `parcel::read_parcel` meets its contract: code, data and edges are put where the answer is no refusal (`ReaderAnswers`).
use Rattle.std.proofs.Common.{length, sym, arith}
use Rattle.rising.proofs.Numbers.{numbers_length}
use Rattle.parcel.proofs.ReaderAnswers.{fitting, read_put}
use Rattle.parcel.proofs.read_parcel.Goals as goal

pub overflow_mul-found-2 : goal.overflow_mul-found-2
overflow_mul-found-2 g c =
    let t = fitting c.args.parcel.now (length c.args.memory.now) (length c.args.edges.now) c.WIDTH.ensures g.met.E.Stored.small c.in_ok-found.ensures in
    omega arith

pub overflow_add-found-2 : goal.overflow_add-found-2
overflow_add-found-2 g c =
    let t = fitting c.args.parcel.now (length c.args.memory.now) (length c.args.edges.now) c.WIDTH.ensures g.met.E.Stored.small c.in_ok-found.ensures in
    omega arith

pub memory_into-requires : goal.memory_into-requires
memory_into-requires g c =
    let t = fitting c.args.parcel.now (length c.args.memory.now) (length c.args.edges.now) c.WIDTH.ensures g.met.E.Stored.small c.in_ok-found.ensures in
    (omega arith, omega arith, omega arith)

pub numbers_into-requires : goal.numbers_into-requires
numbers_into-requires g c =
    let t = fitting c.args.parcel.now (length c.args.memory.now) (length c.args.edges.now) c.WIDTH.ensures g.met.E.Stored.small c.in_ok-found.ensures in
    (rw (← c.WIDTH.ensures) (omega arith), omega arith)

pub returns : goal.returns
returns g c =
    let long = numbers_length g.E.Number.numbers g.E.Number.number g.E.Number.each c.args.edges.now in
    read_put (sym long) c.WIDTH.ensures c.in_ok-found.ensures c.memory_into.ensures c.numbers_into.ensures
