-- `stages::fill_gap_trajs` meets its contract. Assumes nothing.
use Rattle.std.proofs.Common.{arith}
use Rattle.store.proofs.Lent.{at_holds, at_again, at_done}
use Rattle.tile.specs.Owner.{owns}
use Rattle.tile.specs.Tiles.{geometry}
use Rattle.tile.proofs.Lent.{traj_held_after}
use Rattle.traj.specs.Traj.{fill_gap_traj}
use Rattle.traj.proofs.Lists.{trajs_lent}
use Rattle.stages.proofs.fill_gap_trajs.Goals as goal

pub loop-n-init : goal.loop-n-init
loop-n-init c = let t = geometry c.args.t.now in at_holds trajs_lent (owns t) (fill_gap_traj t) 0 _ _

pub fill_gap_traj-requires-clause-slot : goal.fill_gap_traj-requires-clause-slot
fill_gap_traj-requires-clause-slot c = omega (arith, c.loop-n-test.true, c.requires.slots)

pub fill_gap_traj-requires-clause-held : goal.fill_gap_traj-requires-clause-held
fill_gap_traj-requires-clause-held c = traj_held_after (geometry c.args.t.now) c.loop-n.invariant.like c.requires.held

pub loop-n-preserved : goal.loop-n-preserved
loop-n-preserved c =
    let t = geometry c.args.t.now in let l = c.loop-n in let e = c.fill_gap_traj in
    at_again trajs_lent (owns t) (fill_gap_traj t) 0 c.args.n_refs l.n l.trajectories _ e.new.trajectories c.loop-n-test.true l.invariant e.ensures.same_borrow e.ensures.stored

pub returns-clause-same_borrow : goal.returns-clause-same_borrow
returns-clause-same_borrow c = c.loop-n.invariant.like

pub returns-clause-stored : goal.returns-clause-stored
returns-clause-stored c = let t = geometry c.args.t.now in let l = c.loop-n in at_done trajs_lent (owns t) (fill_gap_traj t) 0 c.args.n_refs l.n _ _ c.loop-n-test.false l.invariant
