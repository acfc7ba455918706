-- `framefile::put_planes` meets its contract. Assumes nothing.
use Rattle.std.proofs.Common.{◌≡◌, length}
use Rattle.loops.specs.Over.{span}
use Rattle.framefile.specs.File.{put_present}
use Rattle.framefile.proofs.put_planes.Given as goal

abbrev pub invariant-loop-k : goal.invariant-loop-k
invariant-loop-k l =
    (length l.planes ≡ length l.initial.planes) × (span (put_present l.b l.fn.present l.n l.wide l.high l.stride) l.k 7 l.planes ≡ span (put_present l.b l.fn.present l.n l.wide l.high l.stride) 0 7 l.initial.planes)
