-- `Tile::traj_at` meets its contract. Assumes nothing.
use Rattle.std.proofs.Common.{◌*◌, ◌≤◌, ◌<◌, arith}
use Rattle.tile.specs.Layout.{row_cells, traj_at}
use Rattle.tile.specs.Tiles.{geometry}
use Rattle.tile.proofs.Places.{traj_low, row_cells_low}
use Rattle.tile.proofs.numbers.Tile.traj_at.Goals.{Start}
use Rattle.tile.proofs.numbers.Tile.traj_at.Goals as goal

low : (s : Start) → let a = s.args in let g = geometry a.self.now in (traj_at g a.n a.y a.x < 7 * row_cells g) × (row_cells g ≤ 262144)
low s = let a = s.args in let g = geometry a.self.now in (traj_low g a.self.now.sound a.n a.y a.x s.requires.slot s.requires.column, row_cells_low g a.self.now.sound)

pub overflow_add-result : goal.overflow_add-result
unfolding row_cells traj_at
overflow_add-result c = rw c.place_at.ensures (omega (arith, low (goal.at.overflow_add-result c).Start))

pub returns : goal.returns
unfolding row_cells traj_at
returns c = rw c.place_at.ensures
