-- `smooth::put_means` meets its contract. Assumes nothing.
use Rattle.tile.specs.Tiles.{geometry}
use Rattle.smooth.proofs.Blocks.{AtCol, AtRow}
use Rattle.smooth.proofs.put_means.Given as goal

abbrev pub invariant-loop-b : goal.invariant-loop-b
invariant-loop-b l = AtCol (geometry l.t) l.delta l.block.start l.block.end l.block.top l.block.rows l.block.cols l.means l.a l.b l.field l.initial.field

abbrev pub invariant-loop-a : goal.invariant-loop-a
invariant-loop-a l = AtRow (geometry l.t) l.delta l.block.start l.block.end l.block.top l.block.rows l.block.cols l.means l.a l.field l.initial.field
