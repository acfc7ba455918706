-- `field::project_tip` meets its contract. Assumes nothing.
use Rattle.std.proofs.Common.{refl, ap, ◌∙◌, ℤ, w32, SFits, rules}
use Rattle.intops.proofs.Signed.{back}
use Rattle.store.proofs.Held.{none_empty, some_vector}
use Rattle.tile.specs.Tiles.{geometry}
use Rattle.field.specs.Field.{projected}
use Rattle.field.specs.Lent.{stored, vector_in}
use Rattle.field.proofs.Borrows.{within_at, cell_at}
use Rattle.field.proofs.Ways.{tip_off, tip_on}
use Rattle.field.proofs.project_tip.Goals as goal

pub cell-requires : goal.cell-requires
cell-requires c = let a = c.args in cell_at (geometry a.t.now) a.t.now.sound _ a.y a.x c.field_at-at.ensures c.requires.inside a.field.now c.requires.held

pub returns-in_default-clause-stored : goal.returns-in_default-clause-stored
returns-in_default-clause-stored c =
    let a = c.args in
    λ s. let v = vector_in a.field.now c.field_at-at.result in
    rw (tip_off (geometry a.t.now) a.t.now.sound a.y a.x c.requires.inside c.field_at-at.result c.field_at-at.ensures a.delta (stored s a.field.now) (none_empty v c.cell.result c.cell.ensures c.in_default.is)) refl

pub bounds-field-at : goal.bounds-field-at
bounds-field-at c = let a = c.args in (within_at (geometry a.t.now) a.t.now.sound _ a.y a.x c.field_at-at.ensures c.requires.inside a.field.now c.requires.held).reference

pub put-requires : goal.put-requires
put-requires c = let a = c.args in within_at (geometry a.t.now) a.t.now.sound _ a.y a.x c.field_at-at.ensures c.requires.inside a.field.now c.requires.held

pub returns-clause-stored : goal.returns-clause-stored
returns-clause-stored c =
    let a = c.args in let f = c.ranges.delta in let g : SFits w32 c.from.result = search rules in let h : SFits w32 c.from-den.result = search rules in
    let w = simp back at c.project-w.ensures in
    λ s. let v = vector_in a.field.now c.field_at-at.result in let e = some_vector v c.in-Some.v c.cell.result c.cell.ensures c.in-Some.is in
    c.put.ensures.stored s
    ∙ tip_on (geometry a.t.now) a.t.now.sound a.y a.x c.requires.inside c.field_at-at.result c.field_at-at.ensures a.delta (stored s a.field.now) c.in-Some.v c.project-w.result c.as_byte.result e.0 e.1
    (w ∙ ap (λ (d : ℤ). projected d c.from-den.result c.in-Some.v) (simp back at c.from.ensures) ∙ ap (λ (d : ℤ). projected a.delta d c.in-Some.v) c.from-den.ensures) (simp back at c.as_byte.ensures)
