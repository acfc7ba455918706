-- `holes::fill_around` meets its contract. Assumes nothing.
use Rattle.std.proofs.Common.{◌≡◌, refl, sym, ap, ◌∙◌, ◌+◌, ◌-◌}
use Rattle.intops.proofs.Signed.{back}
use Rattle.store.specs.Store.{Store}
use Rattle.store.specs.Program.{run, when}
use Rattle.store.proofs.Held.{none_empty, some_vector}
use Rattle.tile.specs.Owner.{owns}
use Rattle.tile.specs.Passes.{has_left, has_right, has_above, has_below}
use Rattle.tile.specs.Tiles.{geometry}
use Rattle.tile.proofs.Samples.{above_in}
use Rattle.field.specs.Field.{fill_hole, fill_around}
use Rattle.field.specs.Lent.{IsSameField, stored, vector_in}
use Rattle.field.specs.declared.Field.{Field}
use Rattle.field.proofs.Borrows.{cell_at, same_after, held_after}
use Rattle.holes.proofs.Ways.{Step, step_on, step_off, around_off, around_on}
use Rattle.holes.proofs.fill_around.Goals.{After-has_right, After-has_above, After-has_below, then-has_left, else-has_left, then-has_right, else-has_right, then-has_above, else-has_above}
use Rattle.holes.proofs.fill_around.Goals as goal

left_step : (c : After-has_right) → let a = c.args in let t = geometry a.t.now in Step t (has_left t a.at.start a.at.x) (fill_hole t a.delta c.in-Some.v a.at.y (a.at.x - t.step)) (a.field.now) c.if-has_left.field
left_step c =
    let f = c.ranges.delta in
    elim c.if-has_left.branch [
      | then-has_left w ↦ step_on _ _ _ _ _ (sym c.has_left.ensures ∙ w.if-has_left.true) _ w.field-is w.fill_hole.ensures.same_borrow (simp back at w.fill_hole.ensures.stored)
      | else-has_left w ↦ step_off _ _ _ _ _ (sym c.has_left.ensures ∙ w.if-has_left.false) w.field-is
    ]

right_step : (c : After-has_above) → let a = c.args in let t = geometry a.t.now in Step t (has_right t a.at.end a.at.x) (fill_hole t a.delta c.in-Some.v a.at.y (a.at.x + t.step)) (c.if-has_left.field) c.if-has_right.field
right_step c =
    let f = c.ranges.delta in
    elim c.if-has_right.branch [
      | then-has_right w ↦ step_on _ _ _ _ _ (sym c.has_right.ensures ∙ w.if-has_right.true) _ w.field-is w.fill_hole-then-has_right.ensures.same_borrow (simp back at w.fill_hole-then-has_right.ensures.stored)
      | else-has_right w ↦ step_off _ _ _ _ _ (sym c.has_right.ensures ∙ w.if-has_right.false) w.field-is
    ]

above_step : (c : After-has_below) → let a = c.args in let t = geometry a.t.now in Step t (has_above t a.at.y) (fill_hole t a.delta c.in-Some.v (a.at.y - t.step) a.at.x) (c.if-has_right.field) c.if-has_above.field
above_step c =
    let f = c.ranges.delta in
    elim c.if-has_above.branch [
      | then-has_above w ↦ step_on _ _ _ _ _ (sym c.has_above.ensures ∙ w.if-has_above.true) _ w.field-is w.fill_hole-then-has_above.ensures.same_borrow (simp back at w.fill_hole-then-has_above.ensures.stored)
      | else-has_above w ↦ step_off _ _ _ _ _ (sym c.has_above.ensures ∙ w.if-has_above.false) w.field-is
    ]

-- the first three, one after another
same : (c : After-has_below) → IsSameField c.if-has_above.field c.args.field.now
same c = same_after (above_step c).same (same_after (right_step c.before.before).same (left_step c.before.before.before.before).same)

-- all four
filled : (c : After-has_below) (g : Field) → let a = c.args in let t = geometry a.t.now in Step t (has_below t a.at.y) (fill_hole t a.delta c.in-Some.v (a.at.y + t.step) a.at.x) c.if-has_above.field g
    → (s : Store) → stored s g ≡ run (owns t) (fill_around t a.delta a.at.start a.at.end a.at.y a.at.x) (stored s a.field.now)
filled c g d s =
    let a = c.args in let t = geometry a.t.now in
    let v = vector_in a.field.now c.field_at.result in let e = some_vector v c.in-Some.v c.cell.result c.cell.ensures c.in-Some.is in
    d.stored s ∙ ap (run (owns t) (when (has_below t a.at.y) (fill_hole t a.delta c.in-Some.v (a.at.y + t.step) a.at.x))) ((above_step c).stored s
    ∙ ap (run (owns t) (when (has_above t a.at.y) (fill_hole t a.delta c.in-Some.v (a.at.y - t.step) a.at.x))) ((right_step c.before.before).stored s
    ∙ ap (run (owns t) (when (has_right t a.at.end a.at.x) (fill_hole t a.delta c.in-Some.v a.at.y (a.at.x + t.step)))) ((left_step c.before.before.before.before).stored s)))
    ∙ sym (around_on t a.t.now.sound a.at.y a.at.x c.requires.sampled.cell c.field_at.result c.field_at.ensures a.delta (stored s a.field.now) a.at.start a.at.end c.in-Some.v e.0 e.1)

pub cell-requires : goal.cell-requires
cell-requires c = let a = c.args in cell_at (geometry a.t.now) a.t.now.sound _ a.at.y a.at.x c.field_at.ensures c.requires.sampled.cell a.field.now c.requires.held

pub returns-in_default-clause-stored : goal.returns-in_default-clause-stored
returns-in_default-clause-stored c =
    let a = c.args in
    λ s. sym (around_off (geometry a.t.now) a.t.now.sound a.at.y a.at.x c.requires.sampled.cell c.field_at.result c.field_at.ensures a.delta (stored s a.field.now) a.at.start a.at.end
    (none_empty (vector_in a.field.now c.field_at.result) c.cell.result c.cell.ensures c.in_default.is))

pub fill_hole-requires-then-has_above-clause-inside : goal.fill_hole-requires-then-has_above-clause-inside
fill_hole-requires-then-has_above-clause-inside c =
    let a = c.args in above_in (geometry a.t.now) a.t.now.sound a.at.start a.at.end a.at.y a.at.x c.requires.sampled (sym c.has_above.ensures ∙ c.if-has_above.true)

pub fill_hole-requires-then-has_above-clause-held : goal.fill_hole-requires-then-has_above-clause-held
fill_hole-requires-then-has_above-clause-held c =
    let p = (goal.at.fill_hole-requires-then-has_above-clause-held c).After-has_above in
    held_after (geometry c.args.t.now) (same_after (right_step p).same (left_step p.before.before).same) c.requires.held

pub fill_hole-requires-then-has_below-clause-held : goal.fill_hole-requires-then-has_below-clause-held
fill_hole-requires-then-has_below-clause-held c = held_after (geometry c.args.t.now) (same (goal.at.fill_hole-requires-then-has_below-clause-held c).After-has_below) c.requires.held

pub returns-then-has_below-clause-same_borrow : goal.returns-then-has_below-clause-same_borrow
returns-then-has_below-clause-same_borrow c = same_after c.fill_hole-then-has_below.ensures.same_borrow (same (goal.at.returns-then-has_below-clause-same_borrow c).After-has_below)

pub returns-then-has_below-clause-stored : goal.returns-then-has_below-clause-stored
returns-then-has_below-clause-stored c =
    let f = c.ranges.delta in
    let w = c.fill_hole-then-has_below in
    filled (goal.at.returns-then-has_below-clause-stored c).After-has_below _ (step_on _ _ _ _ _ (sym c.has_below.ensures ∙ c.if-has_below.true) w.new.field refl w.ensures.same_borrow (simp back at w.ensures.stored))

pub returns-else-has_below-clause-same_borrow : goal.returns-else-has_below-clause-same_borrow
returns-else-has_below-clause-same_borrow c = same (goal.at.returns-else-has_below-clause-same_borrow c).After-has_below

pub returns-else-has_below-clause-stored : goal.returns-else-has_below-clause-stored
returns-else-has_below-clause-stored c = filled (goal.at.returns-else-has_below-clause-stored c).After-has_below _ (step_off _ _ _ _ _ (sym c.has_below.ensures ∙ c.if-has_below.false) refl)
