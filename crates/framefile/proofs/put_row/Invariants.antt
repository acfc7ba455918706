-- `framefile::put_row` meets its contract. Assumes nothing.
use Rattle.std.proofs.Common.{◌≡◌, length}
use Rattle.loops.specs.Over.{span}
use Rattle.framefile.specs.File.{put_byte}
use Rattle.framefile.proofs.put_row.Given as goal

abbrev pub invariant-loop-i : goal.invariant-loop-i
invariant-loop-i l =
    (length l.planes ≡ length l.initial.planes) × (span (put_byte l.line l.at) l.i l.i-end l.planes ≡ span (put_byte l.line l.at) 0 l.i-end l.initial.planes)
