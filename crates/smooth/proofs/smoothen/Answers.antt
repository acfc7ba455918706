-- `smooth::smoothen` meets its contract. Assumes nothing.
use Rattle.std.proofs.Common.{◌+◌, arith, w8, to_z, of_z}
use Rattle.intops.proofs.Signed.{back}
use Rattle.tile.specs.Tiles.{geometry}
use Rattle.smooth.proofs.Blocks.{ColumnDone, square_again, squares_done, column_again, smoothen_done}
use Rattle.smooth.proofs.smoothen.Goals.{Left-loop-top, else-loop-top-test, then-loop-top-test+else-top-step-top-end}
use Rattle.smooth.proofs.smoothen.Goals as goal

pub loop-top-preserved : goal.loop-top-preserved
loop-top-preserved c =
    let p = c.smooth_block in let m = c.loop-top in let f = c.ranges.delta in
    square_again (geometry c.args.t.now) _ c.args.t.now.sound c.loop-start.start _ m.top _ _ p.new.field c.loop-top-test.true m.invariant p.ensures.same_borrow p.ensures.stored

-- a column of blocks is done, whichever way its loop ended
column : (c : Left-loop-top) → ColumnDone (geometry c.args.t.now) (to_z w8 (of_z w8 c.args.delta)) c.loop-start.start c.min-end.result c.loop-top-test.field c.loop-start.field
column c =
    let a = c.args in let t = geometry a.t.now in let k = a.t.now.sound in let m = c.loop-top in
    elim c.loop-top-test.branch [
      | else-loop-top-test w ↦ rw w.field-is (squares_done t _ k c.loop-start.start _ m.top _ _ w.loop-top-test.false m.invariant)
      | then-loop-top-test+else-top-step-top-end w ↦
          let p = w.smooth_block in
          let q = square_again t _ k c.loop-start.start _ m.top _ _ p.new.field w.loop-top-test.true m.invariant p.ensures.same_borrow p.ensures.stored in
          rw w.field-is (squares_done t _ k c.loop-start.start _ (m.top + t.block) _ _ (omega arith) q)
    ]

pub loop-start-preserved : goal.loop-start-preserved
loop-start-preserved c =
    let l = c.loop-start in
    column_again (geometry c.args.t.now) _ c.args.t.now.sound l.start _ _ _ _ c.loop-start-test.true c.min-end.ensures l.invariant (column (goal.at.loop-start-preserved c).Left-loop-top)

pub returns-clause-stored : goal.returns-clause-stored
returns-clause-stored c =
    let f = c.ranges.delta in
    simp back at (smoothen_done (geometry c.args.t.now) _ c.args.t.now.sound c.loop-start.start _ _ c.loop-start-test.false c.loop-start.invariant)

-- after the last column by the other way
pub returns-2-clause-stored : goal.returns-2-clause-stored
returns-2-clause-stored c =
    let t = geometry c.args.t.now in let k = c.args.t.now.sound in let l = c.loop-start in let f = c.ranges.delta in
    let q = column_again t _ k l.start _ _ _ _ c.loop-start-test.true c.min-end.ensures l.invariant (column (goal.at.returns-2-clause-stored c).Left-loop-top) in
    simp back at (smoothen_done t _ k (l.start + t.block) _ _ (omega arith) q)
