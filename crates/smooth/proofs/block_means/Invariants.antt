-- `smooth::block_means` meets its contract. Assumes nothing.
use Rattle.std.proofs.Common.{ℕ, ◌+◌, ◌*◌}
use Rattle.levels.specs.declared.Mv.{Mv}
use Rattle.mv.specs.Sums.{smoothed_of}
use Rattle.tile.specs.Geometry.{Geometry}
use Rattle.tile.specs.Tiles.{geometry}
use Rattle.field.specs.declared.Field.{Field}
use Rattle.field.specs.Field.{around}
use Rattle.field.specs.Lent.{vector_in}
use Rattle.smooth.proofs.Blocks.{Lined}
use Rattle.smooth.proofs.block_means.Given as goal

abbrev mean : Field → Geometry → ℕ → ℕ → ℕ → ℕ → ℕ → Mv
mean f t sx xend sy a b = smoothed_of (around t (vector_in f) sx xend (sy + a * t.step) (sx + b * t.step))

abbrev pub invariant-loop-b : goal.invariant-loop-b
invariant-loop-b l = Lined (mean l.field (geometry l.t) l.block.start l.block.end l.block.top) l.block.cols l.a l.b l.means

abbrev pub invariant-loop-a : goal.invariant-loop-a
invariant-loop-a l = Lined (mean l.field (geometry l.t) l.block.start l.block.end l.block.top) l.block.cols l.a 0 l.means
