-- `put::put_traj` meets its contract. Assumes nothing.
use Rattle.std.proofs.Common.{◌*◌, ◌<◌, ◌∙◌, arith}
use Rattle.store.specs.Lent.{with_trajs}
use Rattle.tile.specs.Layout.{row_cells}
use Rattle.tile.specs.Tiles.{geometry}
use Rattle.tile.proofs.Places.{traj_low}
use Rattle.tile.proofs.Owner.{mine_low, own_traj}
use Rattle.put.proofs.Steps.{traj_on}
use Rattle.put.proofs.put_traj.Goals.{After-traj_at-at}
use Rattle.put.proofs.put_traj.Goals as goal

low : (c : After-traj_at-at) → c.traj_at-at.result < 7 * row_cells (geometry c.args.t.now)
low c =
    let t = geometry c.args.t.now in let k = c.args.t.now.sound in
    rw c.traj_at-at.ensures (traj_low t k c.args.n c.args.to.y c.args.to.x c.requires.slot (mine_low t k c.args.to.x c.requires.own))

pub traj_at-at-requires-clause-column : goal.traj_at-at-requires-clause-column
traj_at-at-requires-clause-column c = mine_low (geometry c.args.t.now) c.args.t.now.sound c.args.to.x c.requires.own

pub put_vector-requires : goal.put_vector-requires
put_vector-requires c = let l = low (goal.at.put_vector-requires c).After-traj_at-at in record { y = omega (arith, l, c.requires.held.y); x = omega (arith, l, c.requires.held.x) }

pub returns-clause-stored : goal.returns-clause-stored
returns-clause-stored c =
    let t = geometry c.args.t.now in
    λ s.
    c.put_vector.ensures.stored s
    ∙ traj_on t _ _ _ _ c.traj_at-at.ensures c.short.ensures (own_traj t c.args.t.now.sound c.args.n c.args.to.y c.args.to.x c.requires.slot c.requires.own) (with_trajs s c.args.trajectories.now)
