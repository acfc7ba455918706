-- `loads::load_frame` meets its contract. The invariant: what is left of the frame's calls, on the lists as they are, is all of them on the lists as they were (`GoingOn`). Assumes nothing.
use Rattle.sources.proofs.Rounds.{parts}
use Rattle.loads.proofs.Frame.{GoingOn}
use Rattle.loads.proofs.load_frame.Given as goal

abbrev pub invariant-loop-row : goal.invariant-loop-row
invariant-loop-row l = GoingOn l.setup l.traj l.holes l.planes l.ends l.row (parts l.field l.trajectories l.maps) (parts l.initial.field l.initial.trajectories l.initial.maps)
