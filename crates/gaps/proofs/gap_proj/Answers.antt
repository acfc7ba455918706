-- `gaps::gap_proj` meets its contract. Assumes nothing.
use Rattle.std.proofs.Common.{refl, sym, ap, ◌∙◌, ◌&&◌, ◌+◌, get_or}
use Rattle.mv.specs.Sums.{added, gap_of}
use Rattle.store.proofs.Held.{none_empty, some_vector}
use Rattle.tile.specs.Layout.{field_at}
use Rattle.tile.specs.Tiles.{geometry}
use Rattle.tile.proofs.Samples.{gaps_of}
use Rattle.field.specs.Lent.{vector_in}
use Rattle.field.proofs.Borrows.{within_at, cell_at}
use Rattle.gaps.specs.Code.{beside_of}
use Rattle.gaps.proofs.Ways.{gap_off, gap_on}
use Rattle.gaps.proofs.gap_proj.Goals as goal

pub cell-requires : goal.cell-requires
cell-requires c = let a = c.args in cell_at (geometry a.t.now) a.t.now.sound _ a.at.y a.at.x c.field_at-place.ensures c.requires.sampled.cell a.field.now c.requires.held

pub returns-in_default-clause-stored : goal.returns-in_default-clause-stored
returns-in_default-clause-stored c =
    let a = c.args in let f = a.field.now in let i = c.field_at-place.result in
    gap_off (geometry a.t.now) a.t.now.sound a.at.start a.at.end a.at.y a.at.x c.requires.sampled c.requires.step f i c.field_at-place.ensures (none_empty (vector_in f i) c.cell.result c.cell.ensures c.in_default.is)

pub bounds-field-place : goal.bounds-field-place
bounds-field-place c = let a = c.args in (within_at (geometry a.t.now) a.t.now.sound _ a.at.y a.at.x c.field_at-place.ensures c.requires.sampled.cell a.field.now c.requires.held).reference

pub put_gaps_proj-requires-clause-gaps : goal.put_gaps_proj-requires-clause-gaps
put_gaps_proj-requires-clause-gaps c = let a = c.args in gaps_of (geometry a.t.now) a.t.now.sound a.at.start a.at.end a.at.y a.at.x c.requires.sampled c.requires.step

pub returns-clause-stored : goal.returns-clause-stored
returns-clause-stored c =
    let a = c.args in let t = geometry a.t.now in let l = a.field.now in let i = c.field_at-place.result in let n = get_or l.reference.now i 0 in let low = c.has_below-below.result in
    let m = some_vector (vector_in l i) c.in-Some.v c.cell.result c.cell.ensures c.in-Some.is in
    let e = c.beside-a.ensures in let f = c.beside-b.ensures in let g = c.beside-c.ensures in
    let p = beside_of c.has_right-right.result n (field_at t a.at.y (a.at.x + 2)) l in
    let q = beside_of low n (field_at t (a.at.y + 2) a.at.x) l in
    let r = beside_of (c.has_right-right.result && low) n (field_at t (a.at.y + 2) (a.at.x + 2)) l in
    gap_on t a.t.now.sound a.at.start a.at.end a.at.y a.at.x c.requires.sampled c.requires.step l i c.field_at-place.ensures m.0
    c.in-Some.v p q r c.has_right-right.result low c.put_gaps_proj.new.field (sym m.1) c.has_right-right.ensures c.has_below-below.ensures refl refl refl
    (c.put_gaps_proj.ensures.stored c.in-Some.v p q r e.mean f.mean (c.gap_mean.ensures ∙ ap gap_of (g.sum ∙ ap (added r) (f.sum ∙ ap (added q) (e.sum ∙ ap (added p) c.one.ensures.sum)))))
