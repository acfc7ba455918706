-- `smooth::smooth_block` meets its contract. Assumes nothing.
use Rattle.intops.proofs.Signed.{back}
use Rattle.tile.specs.Tiles.{geometry}
use Rattle.smooth.specs.Code.{InBlock}
use Rattle.smooth.proofs.Blocks.{block_on}
use Rattle.smooth.proofs.smooth_block.Goals.{After-count-2}
use Rattle.smooth.proofs.smooth_block.Goals as goal

-- the rows and columns as counted
block : (c : After-count-2) → let a = c.args in InBlock (geometry a.t.now) a.start a.end a.top c.count.result c.count-2.result
block c =
    let r = c.requires in
    record {
      left = r.left;
      right = r.right;
      on_col = r.first_column;
      end = r.end;
      top = r.top;
      bottom = r.bottom;
      on_row = r.first_row;
      row_count = rw c.min.ensures at c.count.ensures;
      col_count = c.count-2.ensures;
    }

pub returns-clause-stored : goal.returns-clause-stored
returns-clause-stored c =
    let a = c.args in let f = c.ranges.delta in let m = c.block_means in
    block_on (geometry a.t.now) a.delta a.start a.end a.top _ _ m.new.means a.t.now.sound (block (goal.at.returns-clause-stored c).After-count-2) a.field.now c.put_means.new.field m.ensures (simp back at c.put_means.ensures.stored)
