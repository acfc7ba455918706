-- `source::project_source` meets its contract. Assumes nothing.
use Rattle.std.proofs.Common.{◌+◌, ◌*◌}
use Rattle.tile.specs.Tiles.{geometry}
use Rattle.project.specs.Project.{sample}
use Rattle.source.proofs.Rounds.{Rest, parts, row}
use Rattle.source.proofs.project_source.Given as goal

abbrev pub invariant-loop-i : goal.invariant-loop-i
invariant-loop-i l =
    Rest (geometry l.t) (λ x. sample (geometry l.t) l.traj l.planes l.s l.y x) l.from l.end (l.from + l.i * l.t.step) (parts l.field l.trajectories l.maps) (parts l.initial.field l.initial.trajectories l.initial.maps)

abbrev pub invariant-loop-y : goal.invariant-loop-y
invariant-loop-y l =
    Rest (geometry l.t) (row (geometry l.t) l.traj l.planes l.s l.from l.end) l.t.top l.t.bottom l.y (parts l.field l.trajectories l.maps) (parts l.initial.field l.initial.trajectories l.initial.maps)
