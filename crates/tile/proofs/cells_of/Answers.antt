-- `tile::cells_of` meets its contract. Assumes nothing.
use Rattle.intops.proofs.Signed.{back}
use Rattle.tile.proofs.Moves.{quot_cells, quot_fits}
use Rattle.tile.proofs.cells_of.Goals as goal

pub returns : goal.returns
returns c = let f = c.ranges.v in let q = quot_fits c.args.v f in simp back (quot_cells c.args.v)
