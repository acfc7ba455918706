-- `traj::row_at` meets its contract. Assumes nothing.
use Rattle.tile.specs.Tiles.{geometry}
use Rattle.traj.proofs.Rows.{row_is}
use Rattle.traj.proofs.row_at.Goals as goal

pub returns : goal.returns
returns c = let a = c.args in row_is (geometry a.t.now) a.t.now.sound a.p a.y c.requires.top c.requires.bottom
