-- `cases::read` meets its contract. Assumes nothing.
use Rattle.std.proofs.Common.{◌≡◌, ℕ, ◌<◌, ◌+◌, Some, Ok, slice_get}
use Rattle.cases.specs.Numbers.{at}
use Rattle.cases.proofs.read.Given as goal

abbrev pub invariant-loop-i : goal.invariant-loop-i
invariant-loop-i g l = (k : ℕ) (v : _) → k < l.i → slice_get l.to k ≡ Some v → g.T.TryFrom.try_from_gives (at l.n (l.from + k)) (Ok v)
