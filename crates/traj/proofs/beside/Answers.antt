-- `traj::beside` meets its contract. Assumes nothing.
use Rattle.tile.specs.Tiles.{geometry}
use Rattle.tile.proofs.Places.{col_low}
use Rattle.traj.proofs.Rows.{within_at}
use Rattle.traj.proofs.beside.Goals as goal

pub vector-requires : goal.vector-requires
vector-requires c =
    let a = c.args in let t = geometry a.t.now in let k = a.t.now.sound in let h = c.requires.inside c.if-there.true in
    within_at t k c.traj_in.result a.n a.y a.x c.traj_in.ensures c.requires.slot (col_low t k a.x h.right) a.trajectories.now c.requires.held
