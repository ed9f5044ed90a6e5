-- `parcel::room_for` meets its contract: what the counts say of the bytes (`whole`), and each return by the tests that led there (`ReaderAnswers`).
use Rattle.std.proofs.Common.{sym, arith}
use Rattle.parcel.proofs.ReaderAnswers.{whole, none_short}
use Rattle.parcel.proofs.room_for.Goals as goal

pub overflow_add-found : goal.overflow_add-found
overflow_add-found g c = let t = whole g.E.Stored.WIDTH c.args.parcel.now (sym c.in_ok-found.ensures) in omega arith

pub overflow_mul-found : goal.overflow_mul-found
overflow_mul-found g c = let t = whole g.E.Stored.WIDTH c.args.parcel.now (sym c.in_ok-found.ensures) in omega arith

pub returns : goal.returns
returns g c =
    none_short (whole g.E.Stored.WIDTH c.args.parcel.now (sym c.in_ok-found.ensures)) c.args.words c.args.numbers c.if-words-found.false
    c.if-numbers-found.false
