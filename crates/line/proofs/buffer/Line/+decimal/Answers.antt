-- `Line::decimal` is short: the digits of a tenth of the number, and one more (`Text`).
use Rattle.std.proofs.Common.{arith}
use Rattle.line.proofs.Text.{decimal_short}
use Rattle.line.proofs.buffer.Line.+decimal.Goals as goal

pub returns-clause-short : goal.returns-clause-short
returns-clause-short t c =
    decimal_short _ _ c.args.x (omega (arith, c.if-x-lt10.false)) c.ranges.x.fits c.decimal.ensures.text _ c.text-2.ensures.grown
