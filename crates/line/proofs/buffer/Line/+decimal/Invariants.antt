-- The proof of the cycle of calls {decimal}: the number falls.
use Rattle.line.proofs.buffer.Line.+decimal.Given as goal

abbrev pub decreases-decimal : goal.decreases-decimal
decreases-decimal l = l.x
