-- `intersect::follow_all` meets its contract. Assumes nothing.
use Rattle.std.proofs.Common.{arith}
use Rattle.store.proofs.Lent.{at_again, at_done}
use Rattle.tile.specs.Owner.{owns}
use Rattle.tile.specs.Tiles.{geometry}
use Rattle.traj.proofs.Lists.{both, all_lent}
use Rattle.intersect.specs.Code.{followed}
use Rattle.intersect.proofs.follow_all.Goals as goal

pub loop-k-preserved : goal.loop-k-preserved
loop-k-preserved c =
    let a = c.args in let t = geometry a.t.now in let l = c.loop-k in let e = c.follow.ensures in
    at_again all_lent (owns t) (followed t a.h.now) 0 3 l.k (both l.trajectories l.maps) (both a.trajectories.now a.maps.now) (both c.follow.new.trajectories c.follow.new.maps) (omega (arith, c.loop-k-test)) l.invariant
    (record { trajs = e.same_trajectories; maps = e.same_maps }) e.stored

pub returns-clause-stored : goal.returns-clause-stored
returns-clause-stored c =
    let a = c.args in let t = geometry a.t.now in let l = c.loop-k in
    at_done all_lent (owns t) (followed t a.h.now) 0 3 l.k (both l.trajectories l.maps) (both a.trajectories.now a.maps.now) (omega (arith, c.loop-k-test.false)) l.invariant
