-- `traj::fill_rows` meets its contract. Assumes nothing.
use Rattle.std.proofs.Common.{◌+◌, ◌*◌, ◌≤◌, arith}
use Rattle.loops.proofs.Turns.{turned, ended}
use Rattle.store.proofs.Borrows.{same_pairs_after}
use Rattle.tile.specs.Layout.{row_cells}
use Rattle.tile.specs.Tiles.{geometry}
use Rattle.tile.proofs.Places.{row_cells_low}
use Rattle.traj.specs.Code.{row_filled}
use Rattle.traj.proofs.Rows.{row_end}
use Rattle.traj.proofs.fill_rows.Goals.{After-row_at-start}
use Rattle.traj.proofs.fill_rows.Goals as goal

-- the row lies in its plane
low : (g : _) → (c : After-row_at-start g) → let a = c.args in let t = geometry a.t.now in
    (c.row_at-start.result + a.b ≤ (a.p + 1) * row_cells t) × (c.row_at-start.result + a.b ≤ 21 * row_cells t) × (row_cells t ≤ 262144)
low g c =
    let a = c.args in let t = geometry a.t.now in let k = a.t.now.sound in
    (rw c.row_at-start.ensures (row_end t k a.p (a.p + 1) c.loop-row.row a.b (omega arith) c.requires.columns), rw c.row_at-start.ensures (row_end t k a.p 21 c.loop-row.row a.b c.requires.plane c.requires.columns), row_cells_low t k)

pub overflow_add-start : goal.overflow_add-start
overflow_add-start g c = omega (arith, low g (goal.at.overflow_add-start g c).After-row_at-start, c.requires.order)

pub overflow_add-start-in-loop-row : goal.overflow_add-start-in-loop-row
overflow_add-start-in-loop-row g c = omega (arith, low g (goal.at.overflow_add-start-in-loop-row g c).After-row_at-start)

pub fill-requires-clause-y : goal.fill-requires-clause-y
fill-requires-clause-y g c = omega (arith, low g (goal.at.fill-requires-clause-y g c).After-row_at-start, c.loop-row.invariant.0.same.y_length, c.requires.y)

pub fill-requires-clause-x : goal.fill-requires-clause-x
fill-requires-clause-x g c = omega (arith, low g (goal.at.fill-requires-clause-x g c).After-row_at-start, c.loop-row.invariant.0.same.x_length, c.requires.x)

pub loop-row-preserved : goal.loop-row-preserved
loop-row-preserved g c =
    let a = c.args in let t = geometry a.t.now in let l = c.loop-row in let i = l.invariant.0 in let e = c.fill.ensures in (
      record {
        same = same_pairs_after e.same_borrow i.same;
        from = omega (arith, i.from);
        y = turned (row_filled t a.p a.a a.b a.y) t.bottom l.row _ _ _ (omega (arith, c.loop-row-test, l.invariant.1)) (rw (← c.row_at-start.ensures) e.y) i.y;
        x = turned (row_filled t a.p a.a a.b a.x) t.bottom l.row _ _ _ (omega (arith, c.loop-row-test, l.invariant.1)) (rw (← c.row_at-start.ensures) e.x) i.x;
      },
      l.invariant.1,
    )

pub returns-clause-y : goal.returns-clause-y
returns-clause-y g c = let a = c.args in let t = geometry a.t.now in let l = c.loop-row in ended (row_filled t a.p a.a a.b a.y) t.bottom l.row _ _ (omega (arith, c.loop-row-test.false, l.invariant.1)) l.invariant.0.y

pub returns-clause-x : goal.returns-clause-x
returns-clause-x g c = let a = c.args in let t = geometry a.t.now in let l = c.loop-row in ended (row_filled t a.p a.a a.b a.x) t.bottom l.row _ _ (omega (arith, c.loop-row-test.false, l.invariant.1)) l.invariant.0.x
