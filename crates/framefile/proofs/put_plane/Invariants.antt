-- `framefile::put_plane` meets its contract. Assumes nothing.
use Rattle.std.proofs.Common.{◌≡◌, length}
use Rattle.loops.specs.Over.{span}
use Rattle.framefile.specs.File.{put_plane_row}
use Rattle.framefile.proofs.put_plane.Given as goal

abbrev pub invariant-loop-y : goal.invariant-loop-y
invariant-loop-y l =
    (length l.planes ≡ length l.initial.planes) × (span (put_plane_row l.b l.from l.rows.wide l.rows.stride l.at) l.y l.rows.high l.planes ≡ span (put_plane_row l.b l.from l.rows.wide l.rows.stride l.at) 0 l.rows.high l.initial.planes)
