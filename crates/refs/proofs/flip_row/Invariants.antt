-- `refs::flip_row` meets its contract. Assumes nothing.
use Rattle.std.proofs.Common.{◌≡◌, ◌^◌, ◌<◌}
use Rattle.loops.specs.Over.{span}
use Rattle.refs.specs.Refs.{add_flip, flip_row}
use Rattle.refs.proofs.flip_row.Given as goal

abbrev pub invariant-loop-n : goal.invariant-loop-n
invariant-loop-n l = (l.r < 2 ^ l.n) × (span (add_flip l.h.hints.pocs l.sign l.i) l.n l.h.hints.pocs.n_refs l.r ≡ flip_row l.h.hints.pocs l.sign l.i)
