-- `smooth::block_means` meets its contract. Assumes nothing.
use Rattle.std.proofs.Common.{ap, ◌∙◌, ◌≤◌, arith}
use Rattle.mv.specs.Sums.{smoothed_of}
use Rattle.tile.specs.Tiles.{geometry}
use Rattle.smooth.proofs.Blocks.{line_start, line_next, line_row, few_rows, few_cols}
use Rattle.smooth.proofs.block_means.Goals.{Start}
use Rattle.smooth.proofs.block_means.Goals as goal

rows_few : (s : Start) → s.args.block.rows ≤ 8
rows_few s = let a = s.args in few_rows (geometry a.t.now) a.t.now.sound a.block.start a.block.end a.block.top a.block.rows a.block.cols s.requires.inside

cols_few : (s : Start) → s.args.block.cols ≤ 8
cols_few s = let a = s.args in few_cols (geometry a.t.now) a.t.now.sound a.block.start a.block.end a.block.top a.block.rows a.block.cols s.requires.inside

pub loop-a-init : goal.loop-a-init
loop-a-init c = line_start _ c.args.block.cols (cols_few (goal.at.loop-a-init c).Start) c.args.means.now c.requires.means

pub loop-b-preserved : goal.loop-b-preserved
loop-b-preserved c =
    let s = (goal.at.loop-b-preserved c).Start in
    line_next _ c.args.block.cols (cols_few s) c.loop-a.a c.loop-b.b c.loop-b.means c.smoothed.result (omega (arith, rows_few s, c.loop-a-test)) (omega (arith, c.loop-b-test))
    (c.smoothed.ensures ∙ ap smoothed_of c.around_at.ensures.sum) c.loop-b.invariant

pub loop-a-preserved : goal.loop-a-preserved
loop-a-preserved c =
    line_row _ c.args.block.cols (cols_few (goal.at.loop-a-preserved c).Start) c.loop-a.a c.loop-b.b c.loop-b.means (omega (arith, c.loop-b-test)) c.loop-b.invariant
