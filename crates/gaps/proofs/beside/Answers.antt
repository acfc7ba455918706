-- `gaps::beside` meets its contract. Assumes nothing.
use Rattle.std.proofs.Common.{rules, ◌≡◌, sym, ap, ◌∙◌, true, false, ℕ, ℤ, pos, get_or, w32, SFits}
use Rattle.intops.proofs.Signed.{back}
use Rattle.levels.specs.declared.Mv.{Mv}
use Rattle.mv.specs.Sums.{is_empty, no_sum, added, gap_of}
use Rattle.store.proofs.Held.{none_empty, some_vector}
use Rattle.tile.specs.Layout.{field_at}
use Rattle.tile.specs.Tiles.{geometry}
use Rattle.field.specs.Field.{projected}
use Rattle.field.specs.Lent.{vector_in}
use Rattle.field.proofs.Borrows.{within_at, cell_at}
use Rattle.gaps.specs.Code.{beside_of}
use Rattle.gaps.proofs.Ways.{stays}
use Rattle.gaps.proofs.beside.Goals.{After-project-a}
use Rattle.gaps.proofs.beside.Goals as goal

pub returns-then-not-there-clause-mean : goal.returns-then-not-there-clause-mean
returns-then-not-there-clause-mean c = let a = c.args in rw c.if-not-there.true (stays a.v a.s c.requires.some c.requires.fair).0

pub cell-requires : goal.cell-requires
cell-requires c = let a = c.args in cell_at (geometry a.t.now) a.t.now.sound _ a.y a.x c.field_at-at.ensures (c.requires.inside c.if-not-there.false) a.field.now c.requires.held

pub returns-in_default-clause-mean : goal.returns-in_default-clause-mean
returns-in_default-clause-mean c =
    let a = c.args in
    let e : is_empty (vector_in a.field.now (field_at (geometry a.t.now) a.y a.x)) ≡ true =
    rw c.field_at-at.ensures at (none_empty (vector_in a.field.now c.field_at-at.result) c.cell.result c.cell.ensures c.in_default.is) in
    rw (c.if-not-there.false, e) (stays a.v a.s c.requires.some c.requires.fair).0

pub bounds-field-at : goal.bounds-field-at
bounds-field-at c = let a = c.args in (within_at (geometry a.t.now) a.t.now.sound _ a.y a.x c.field_at-at.ensures (c.requires.inside c.if-not-there.false) a.field.now c.requires.held).reference

-- the neighbour, projected
neighbour : (c : After-project-a) → let a = c.args in c.project-a.result ≡ beside_of a.there a.to (field_at (geometry a.t.now) a.y a.x) a.field.now
neighbour c =
    let a = c.args in let f = a.field.now in let i = field_at (geometry a.t.now) a.y a.x in
    let g : SFits w32 c.from-den.result = search rules in let h : SFits w32 c.from.result = search rules in
    let e = some_vector (vector_in f c.field_at-at.result) c.in-Some.w c.cell.result c.cell.ensures c.in-Some.is in
    let n : is_empty (vector_in f i) ≡ false = rw c.field_at-at.ensures at e.0 in
    let p = simp back at c.project-a.ensures in
    p ∙ ap (λ (d : ℤ). projected d c.from-den.result c.in-Some.w) c.from.ensures ∙ ap (λ (d : ℤ). projected (pos a.to) d c.in-Some.w) c.from-den.ensures
    ∙ ap (projected (pos a.to) (pos (get_or f.reference.now c.field_at-at.result 0))) (sym e.1)
    ∙ ap (λ (j : ℕ). projected (pos a.to) (pos (get_or f.reference.now j 0)) (vector_in f j)) c.field_at-at.ensures ∙ rw (c.if-not-there.false, n)

pub returns-clause-mean : goal.returns-clause-mean
returns-clause-mean c = let a = c.args in c.gap_of_two.ensures ∙ ap (λ (w : Mv). gap_of (added w (added a.v no_sum))) (neighbour (goal.at.returns-clause-mean c).After-project-a)

pub returns-clause-sum : goal.returns-clause-sum
returns-clause-sum c = c.add.ensures.sum ∙ ap (λ (w : Mv). added w c.args.s) (neighbour (goal.at.returns-clause-sum c).After-project-a)
