-- `holes::fill_hole` meets its contract. Assumes nothing.
use Rattle.std.proofs.Common.{sym, ◌∙◌}
use Rattle.intops.proofs.Signed.{back}
use Rattle.store.proofs.Held.{empty_by}
use Rattle.tile.specs.Tiles.{geometry}
use Rattle.field.specs.Lent.{stored, vector_in}
use Rattle.field.proofs.Borrows.{within_at, cell_at}
use Rattle.holes.proofs.Ways.{hole_off, hole_on}
use Rattle.holes.proofs.fill_hole.Goals as goal

pub cell-requires : goal.cell-requires
cell-requires c = let a = c.args in cell_at (geometry a.t.now) a.t.now.sound _ a.y a.x c.field_at-at.ensures c.requires.inside a.field.now c.requires.held

pub put-requires : goal.put-requires
put-requires c = let a = c.args in within_at (geometry a.t.now) a.t.now.sound _ a.y a.x c.field_at-at.ensures c.requires.inside a.field.now c.requires.held

pub returns-then-is_none-clause-stored : goal.returns-then-is_none-clause-stored
returns-then-is_none-clause-stored c =
    let a = c.args in let f = c.ranges.delta in
    λ s. c.put.ensures.stored s
    ∙ hole_on (geometry a.t.now) a.t.now.sound a.y a.x c.requires.inside c.field_at-at.result c.field_at-at.ensures a.delta (stored s a.field.now) a.v c.as_byte.result
    (empty_by (vector_in a.field.now c.field_at-at.result) c.cell.result _ c.cell.ensures c.if-is_none.ensures) (simp back at c.as_byte.ensures)

pub returns-else-is_none-clause-stored : goal.returns-else-is_none-clause-stored
returns-else-is_none-clause-stored c =
    let a = c.args in
    λ s. sym (hole_off (geometry a.t.now) a.t.now.sound a.y a.x c.requires.inside c.field_at-at.result c.field_at-at.ensures a.delta (stored s a.field.now) a.v
    (empty_by (vector_in a.field.now c.field_at-at.result) c.cell.result _ c.cell.ensures c.if-is_none.ensures))
