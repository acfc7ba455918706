-- `loads::load_row` meets its contract. The invariant: what is left of the row's calls, on the lists as they are, is all of them on the lists as they were (`Going`). Assumes nothing.
use Rattle.std.proofs.Common.{drop}
use Rattle.sources.proofs.Rounds.{parts}
use Rattle.loads.specs.Frame.{row_calls}
use Rattle.loads.proofs.Frame.{Going}
use Rattle.loads.proofs.load_row.Given as goal

abbrev pub invariant-loop-end : goal.invariant-loop-end
invariant-loop-end l =
    Going (row_calls l.setup l.traj l.holes l.planes l.row l.start (drop l.end-index l.ends)) (row_calls l.setup l.traj l.holes l.planes l.row 0 l.ends) (parts l.field l.trajectories l.maps) (parts l.initial.field l.initial.trajectories l.initial.maps)
