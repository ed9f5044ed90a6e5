-- `sets::put_sets` meets its contract: the sets of the jumps whose edges were passed are in the arrays.
use Rattle.std.proofs.Common.{◌-◌, ◌≡◌, get_or, ℕ, ◌+◌, ◌<◌, ◌≤◌}
use Rattle.checker.specs.Passes.{Put}
use Rattle.checker.proofs.Runs.{Cut}
use mathlib.Core.Bool.{true}
use mathlib.Core.Logic.{◌≢◌}
use Rattle.checker.proofs.sets.put_sets.Given as goal

abbrev pub invariant-loop-first : goal.invariant-loop-first
invariant-loop-first l = (a : ℕ) × (a ≤ l.claim.code.n) × Cut l.claim.edges.now a l.first × Put l.claim.edges.now l.claim.code.n a l.own l.size × (l.fitting ≡ true → (t : ℕ) → t < l.claim.code.n → get_or l.own t 0 ≢ l.claim.code.n + 1)

abbrev pub decreases-loop-first : goal.decreases-loop-first
decreases-loop-first l = l.m - l.first
