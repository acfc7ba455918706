-- `frame::used_mask` meets its contract. Assumes nothing.
use Rattle.std.proofs.Common.{◌≡◌}
use Rattle.frame.proofs.Mask.{bits}
use Rattle.frame.proofs.used_mask.Given as goal

abbrev pub invariant-loop-k : goal.invariant-loop-k
invariant-loop-k l = l.mask ≡ bits l.taken l.k
