-- `intersect::follow_all` meets its contract. Assumes nothing.
use Rattle.store.proofs.Lent.{At}
use Rattle.tile.specs.Owner.{owns}
use Rattle.tile.specs.Tiles.{geometry}
use Rattle.traj.proofs.Lists.{both, all_lent}
use Rattle.intersect.specs.Code.{followed}
use Rattle.intersect.proofs.follow_all.Given as goal

abbrev pub invariant-loop-k : goal.invariant-loop-k
invariant-loop-k l = At all_lent (owns (geometry l.t)) (followed (geometry l.t) l.h) 0 3 l.k (both l.trajectories l.maps) (both l.initial.trajectories l.initial.maps)
