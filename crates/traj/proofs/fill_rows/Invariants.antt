-- `traj::fill_rows` meets its contract. Assumes nothing.
use Rattle.std.proofs.Common.{◌≡◌}
use Rattle.tile.specs.Tiles.{geometry}
use Rattle.traj.proofs.Rows.{RowsLeft}
use Rattle.traj.proofs.fill_rows.Given as goal

abbrev pub invariant-loop-row : goal.invariant-loop-row
invariant-loop-row g l = RowsLeft (geometry l.t) l.p l.a l.b l.y l.x l.row l.cells l.initial.cells × (l.row-end ≡ l.t.bottom)
