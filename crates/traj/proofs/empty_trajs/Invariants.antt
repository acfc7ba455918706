-- `traj::empty_trajs` meets its contract. Assumes nothing.
use Rattle.store.proofs.Lent.{At}
use Rattle.tile.specs.Owner.{owns}
use Rattle.tile.specs.Tiles.{geometry}
use Rattle.traj.specs.Traj.{empty_map}
use Rattle.traj.proofs.Lists.{both, maps_lent, all_lent}
use Rattle.traj.proofs.Rows.{slot_prog}
use Rattle.traj.proofs.empty_trajs.Given as goal

abbrev pub invariant-loop-k : goal.invariant-loop-k
invariant-loop-k l = At maps_lent (owns (geometry l.t)) (empty_map (geometry l.t) l.n) 0 3 l.k l.maps l.initial.maps

abbrev pub invariant-loop-n : goal.invariant-loop-n
invariant-loop-n l =
    At all_lent (owns (geometry l.t)) (slot_prog (geometry l.t)) 0 7 l.n (both l.trajectories l.maps) (both l.initial.trajectories l.initial.maps)
