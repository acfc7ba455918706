-- `smooth::put_means` meets its contract. Assumes nothing.
use Rattle.std.proofs.Common.{◌+◌, ◌*◌, arith}
use Rattle.intops.proofs.Signed.{back}
use Rattle.tile.specs.Sound.{InTile}
use Rattle.tile.specs.Tiles.{geometry}
use Rattle.field.proofs.Borrows.{same_after, held_after, within_at}
use Rattle.smooth.specs.Code.{mean_in}
use Rattle.smooth.proofs.Blocks.{block_sample, col_again, row_again, rows_done, set_at}
use Rattle.smooth.proofs.put_means.Goals.{In-loop-b}
use Rattle.smooth.proofs.put_means.Goals as goal

here : (c : In-loop-b) → let a = c.args in InTile (geometry a.t.now) (a.block.top + c.loop-a.a * a.t.now.step) (a.block.start + c.loop-b.b * a.t.now.step)
here c =
    let a = c.args in
    (block_sample (geometry a.t.now) a.t.now.sound a.block.start a.block.end a.block.top a.block.rows a.block.cols c.requires.inside c.loop-a.a c.loop-b.b (omega (arith, c.loop-a-test)) (omega (arith, c.loop-b-test))).cell

pub put-requires : goal.put-requires
put-requires c =
    let a = c.args in let t = geometry a.t.now in
    within_at t a.t.now.sound _ _ _ c.field_at-at.ensures (here (goal.at.put-requires c).In-loop-b) c.loop-b.field (held_after t (same_after c.loop-b.invariant.like c.loop-a.invariant.like) c.requires.held)

pub loop-b-preserved : goal.loop-b-preserved
loop-b-preserved c =
    let a = c.args in let b = a.block in let l = c.loop-b in let i = c.loop-a.a in let t = geometry a.t.now in
    col_again t _ b.start b.end b.top b.rows b.cols a.means.now a.t.now.sound c.requires.inside i l.b _ _ c.put.new.self (omega (arith, c.loop-a-test)) (omega (arith, c.loop-b-test)) l.invariant
    c.put.ensures.same_borrow (set_at c.put.new.self l.field c.field_at-at.result _ (mean_in a.means.now i l.b) c.as_byte.result _ c.field_at-at.ensures c.as_byte.ensures c.put.ensures.stored)

pub loop-a-preserved : goal.loop-a-preserved
loop-a-preserved c =
    let a = c.args in let b = a.block in
    row_again (geometry a.t.now) _ b.start b.end b.top b.rows b.cols a.means.now a.t.now.sound c.requires.inside c.loop-a.a c.loop-b.b _ _ _ (omega (arith, c.loop-a-test)) (omega (arith, c.loop-b-test)) c.loop-a.invariant c.loop-b.invariant

pub returns-clause-stored : goal.returns-clause-stored
returns-clause-stored c =
    let a = c.args in let b = a.block in let f = c.ranges.delta in
    simp back at (rows_done (geometry a.t.now) _ b.start b.end b.top b.rows b.cols a.means.now a.t.now.sound c.requires.inside c.loop-a.a _ _ (omega (arith, c.loop-a-test)) c.loop-a.invariant)
