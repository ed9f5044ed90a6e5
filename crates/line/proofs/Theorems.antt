-- A long input has the line of its front.
use mathlib.Core.Path.{ap}
use Rattle.parcel.specs.Parcel.{Content}
use Rattle.parcel.proofs.Front.{front_suffices}
use Rattle.line.specs.Line.{answer_of, line_of}
use Rattle.line.specs.Theorems.{PrefixSuffices}

pub prefix_suffices : PrefixSuffices
prefix_suffices s k long within = ap (λ (c : Content). line_of (answer_of c)) (front_suffices s k long within)
