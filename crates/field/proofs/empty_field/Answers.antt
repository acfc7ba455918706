-- `field::empty_field` meets its contract. Assumes nothing.
use Rattle.std.proofs.Common.{refl, ap, ◌∙◌, ◌+◌, ◌≤◌, ◌<◌, arith}
use Rattle.store.proofs.Lent.{at_holds, at_again, at_done}
use Rattle.tile.specs.Layout.{row_cells}
use Rattle.tile.specs.Owner.{owns}
use Rattle.tile.specs.Tiles.{geometry}
use Rattle.store.specs.Store.{with_field}
use Rattle.field.specs.Field.{empty_field}
use Rattle.field.specs.Lent.{stored}
use Rattle.field.proofs.Borrows.{vectors}
use Rattle.field.proofs.Rows.{emptied_row, row_low_at, row_emptied}
use Rattle.field.proofs.empty_field.Goals.{After-field_at-row}
use Rattle.field.proofs.empty_field.Goals as goal

-- a row's end, and the lists' ends
low : (c : After-field_at-row) → let t = geometry c.args.t.now in (c.field_at-row.result + t.right ≤ t.offset + row_cells t) × (t.left < t.right) × (t.offset + row_cells t ≤ 67371008)
low c =
    let t = geometry c.args.t.now in let k = c.args.t.now.sound in
    let e = row_low_at t k c.loop-y.y c.field_at-row.result c.field_at-row.ensures t.right (omega (arith, k.right, k.wide)) in (e.0, k.some, e.1)

pub overflow_add-row : goal.overflow_add-row
overflow_add-row c = omega (arith, low (goal.at.overflow_add-row c).After-field_at-row)

pub overflow_add-row-in-loop-y : goal.overflow_add-row-in-loop-y
overflow_add-row-in-loop-y c = omega (arith, low (goal.at.overflow_add-row-in-loop-y c).After-field_at-row)

pub empty_cells-requires-clause-y : goal.empty_cells-requires-clause-y
empty_cells-requires-clause-y c = omega (arith, low (goal.at.empty_cells-requires-clause-y c).After-field_at-row, c.loop-y.invariant.0.like.y_length, c.requires.y)

pub empty_cells-requires-clause-x : goal.empty_cells-requires-clause-x
empty_cells-requires-clause-x c = omega (arith, low (goal.at.empty_cells-requires-clause-x c).After-field_at-row, c.loop-y.invariant.0.like.x_length, c.requires.x)

pub loop-y-init : goal.loop-y-init
loop-y-init c = let t = geometry c.args.t.now in (at_holds vectors (owns t) (emptied_row t) t.top t.bottom _, refl, refl)

pub loop-y-preserved : goal.loop-y-preserved
loop-y-preserved c =
    let l = c.loop-y in let t = geometry c.args.t.now in let e = c.empty_cells.ensures in (
      at_again vectors (owns t) (emptied_row t) t.top t.bottom l.y l.field _ c.empty_cells.new.self (omega (arith, c.loop-y-test, l.invariant.1)) l.invariant.0 e.same_borrow
          (row_emptied t c.args.t.now.sound l.y c.field_at-row.result c.field_at-row.ensures l.field c.empty_cells.new.self e.y e.x),
      l.invariant.1,
      e.reference ∙ l.invariant.2,
    )

pub returns-clause-vectors : goal.returns-clause-vectors
unfolding empty_field
returns-clause-vectors c = let l = c.loop-y in let t = geometry c.args.t.now in at_done vectors (owns t) (emptied_row t) t.top t.bottom l.y _ _ (omega (arith, c.loop-y-test.false, l.invariant.1)) l.invariant.0

pub returns-clause-reference : goal.returns-clause-reference
returns-clause-reference c = c.loop-y.invariant.2

pub returns-clause-stored : goal.returns-clause-stored
unfolding empty_field
returns-clause-stored c =
    let l = c.loop-y in let t = geometry c.args.t.now in let f = c.args.field.now in
    λ s. ap (λ r. with_field s l.field.y.now l.field.x.now r) l.invariant.2
    ∙ at_done vectors (owns t) (emptied_row t) t.top t.bottom l.y _ _ (omega (arith, c.loop-y-test.false, l.invariant.1)) l.invariant.0 (stored s f)
