-- `traj::empty_trajs` meets its contract. Assumes nothing.
use Rattle.std.proofs.Common.{arith}
use Rattle.store.proofs.Lent.{at_again, at_done}
use Rattle.tile.specs.Owner.{owns}
use Rattle.tile.specs.Tiles.{geometry}
use Rattle.traj.specs.Traj.{empty_map, empty_trajs}
use Rattle.traj.proofs.Lists.{both, maps_lent, all_lent}
use Rattle.traj.proofs.Rows.{slot_prog, slot_emptied, traj_emptied, map_emptied}
use Rattle.traj.proofs.empty_trajs.Goals as goal

pub loop-k-preserved : goal.loop-k-preserved
loop-k-preserved c =
    let t = geometry c.args.t.now in let l = c.loop-k in let e = c.fill_rows-in-loop-k.ensures in
    at_again maps_lent (owns t) (empty_map t c.loop-n.n) 0 3 l.k l.maps _ c.fill_rows-in-loop-k.new.cells (omega (arith, c.loop-k-test)) l.invariant e.same_borrow
    (map_emptied t c.args.t.now.sound c.loop-n.n (omega (arith, c.loop-n-test)) l.maps c.fill_rows-in-loop-k.new.cells l.k c.min-from.result (omega (arith, c.loop-k-test)) (rw (c.min-from.ensures, c.map_from.ensures, c.map_to-to.ensures)) (rw (← c.map_to-to.ensures) e.y) (rw (← c.map_to-to.ensures) e.x))

pub loop-n-preserved : goal.loop-n-preserved
loop-n-preserved c =
    let t = geometry c.args.t.now in let l = c.loop-n in let m = c.loop-k in let e = c.fill_rows.ensures in
    at_again all_lent (owns t) (slot_prog t) 0 7 l.n (both l.trajectories l.maps) (both c.args.trajectories.now c.args.maps.now) (both c.fill_rows.new.cells m.maps) (omega (arith, c.loop-n-test)) l.invariant
    (record { trajs = e.same_borrow; maps = m.invariant.like })
    (slot_emptied t l.n l.trajectories c.fill_rows.new.cells l.maps m.maps (traj_emptied t c.args.t.now.sound l.n (omega (arith, c.loop-n-test)) l.trajectories c.fill_rows.new.cells e.y e.x)
    (at_done maps_lent (owns t) (empty_map t l.n) 0 3 m.k m.maps l.maps (omega (arith, c.loop-k-test.false)) m.invariant))

pub returns-clause-stored : goal.returns-clause-stored
unfolding empty_trajs
returns-clause-stored c = let t = geometry c.args.t.now in let l = c.loop-n in at_done all_lent (owns t) (slot_prog t) 0 7 l.n _ _ (omega (arith, c.loop-n-test.false)) l.invariant
