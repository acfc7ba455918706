-- `Tile::map_in` meets its contract. Assumes nothing.
use Rattle.std.proofs.Common.{◌+◌, ◌*◌, ◌≤◌, ◌<◌, arith, refl}
use Rattle.std.proofs.Math.Arith.{digits_lt}
use Rattle.tile.specs.Layout.{row_cells}
use Rattle.tile.specs.Tiles.{geometry}
use Rattle.tile.proofs.Places.{row_cells_low}
use Rattle.tile.proofs.numbers.Tile.map_in.Goals.{Start}
use Rattle.tile.proofs.numbers.Tile.map_in.Goals as goal

low : (s : Start) → let a = s.args in let g = geometry a.self.now in ((a.k * 7 + a.n) * row_cells g + a.at < 21 * row_cells g) × (row_cells g ≤ 262144)
low s = let a = s.args in let m : a.k * 7 + a.n < 21 = omega (arith, s.requires.plane, s.requires.slot) in (digits_lt m s.requires.place, row_cells_low (geometry a.self.now) a.self.now.sound)

pub overflow_add-result-2 : goal.overflow_add-result-2
unfolding row_cells
overflow_add-result-2 c = omega (arith, low (goal.at.overflow_add-result-2 c).Start)

pub returns : goal.returns
unfolding row_cells
returns c = refl
