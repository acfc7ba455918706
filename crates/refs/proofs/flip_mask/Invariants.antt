-- `refs::flip_mask` meets its contract. Assumes nothing.
use Rattle.std.proofs.Common.{◌≡◌, ◌<◌, ◌*◌, ◌^◌}
use Rattle.loops.specs.Over.{span}
use Rattle.refs.specs.Refs.{add_row, flip_mask}
use Rattle.refs.proofs.flip_mask.Given as goal

abbrev pub invariant-loop-i : goal.invariant-loop-i
invariant-loop-i l = (l.m < 2 ^ (8 * l.i)) × (span (add_row l.h.hints.pocs l.sign) l.i l.h.hints.pocs.n_refs l.m ≡ flip_mask l.h.hints.pocs l.sign)
