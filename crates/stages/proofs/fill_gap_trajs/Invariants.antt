-- `stages::fill_gap_trajs` meets its contract. Assumes nothing.
use Rattle.store.proofs.Lent.{At}
use Rattle.tile.specs.Owner.{owns}
use Rattle.tile.specs.Tiles.{geometry}
use Rattle.traj.specs.Traj.{fill_gap_traj}
use Rattle.traj.proofs.Lists.{trajs_lent}
use Rattle.stages.proofs.fill_gap_trajs.Given as goal

abbrev pub invariant-loop-n : goal.invariant-loop-n
invariant-loop-n l = At trajs_lent (owns (geometry l.t)) (fill_gap_traj (geometry l.t)) 0 l.n_refs l.n l.trajectories l.initial.trajectories
