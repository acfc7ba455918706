-- `field::copy_above` meets its contract. Assumes nothing.
use Rattle.std.proofs.Common.{◌≡◌, ◌∙◌, ℕ, ◌+◌, ◌-◌, ◌*◌, ◌≤◌, ◌<◌, arith}
use Rattle.loops.proofs.Turns.{row_within}
use Rattle.store.specs.Program.{Prog, each}
use Rattle.store.proofs.Lent.{at_again, at_done}
use Rattle.tile.specs.Geometry.{Geometry}
use Rattle.tile.specs.Layout.{row_cells}
use Rattle.tile.specs.Owner.{owns}
use Rattle.tile.specs.Tiles.{geometry}
use Rattle.tile.proofs.Places.{side_some, last_is}
use Rattle.tile.proofs.Owner.{mine_in}
use Rattle.field.specs.Field.{copy_above}
use Rattle.field.specs.Lent.{IsHeld}
use Rattle.field.proofs.Borrows.{lent, held_after}
use Rattle.field.proofs.Copies.{row_copied}
use Rattle.field.proofs.Ways.{copy_prog, copied_on}
use Rattle.field.proofs.copy_above.Goals.{In-loop-r}
use Rattle.field.proofs.copy_above.Goals as goal

abbrev copied_row : Geometry → ℕ → Prog
copied_row t r = each t.left t.right (copy_prog t r)

-- the row that is copied, and where to
rows : (c : In-loop-r) → let t = geometry c.args.t.now in let r = c.loop-r.r in
    ((t.side - 3 + r) * t.stride + t.right ≤ row_cells t) × (r * t.stride + t.right ≤ t.offset) × (t.left < t.right) × (r < 3)
unfolding row_cells
rows c =
    let t = geometry c.args.t.now in let k = c.args.t.now.sound in let r = c.loop-r.r in
    let l : r < 3 = c.loop-r-test.true in let m : t.side - 3 + r < t.side = omega (arith, side_some t k) in
    (omega (arith, row_within (t.side - 3 + r) t.side t.stride m, k.right, k.wide), omega (arith, row_within r 3 t.stride l, c.requires.row_mode, k.right, k.wide), k.some, l)

held : (c : In-loop-r) → IsHeld (geometry c.args.t.now) c.loop-r.field
held c = held_after (geometry c.args.t.now) c.loop-r.invariant.like c.requires.held

pub copy_cells-requires-clause-y : goal.copy_cells-requires-clause-y
copy_cells-requires-clause-y c = let p = (goal.at.copy_cells-requires-clause-y c).In-loop-r in omega (arith, rows p, (held p).y)

pub copy_cells-requires-clause-x : goal.copy_cells-requires-clause-x
copy_cells-requires-clause-x c = let p = (goal.at.copy_cells-requires-clause-x c).In-loop-r in omega (arith, rows p, (held p).x)

pub copy_cells-requires-clause-reference : goal.copy_cells-requires-clause-reference
copy_cells-requires-clause-reference c = let p = (goal.at.copy_cells-requires-clause-reference c).In-loop-r in omega (arith, rows p, (held p).ref)

pub loop-r-preserved : goal.loop-r-preserved
loop-r-preserved c =
    let l = c.loop-r in let t = geometry c.args.t.now in let k = c.args.t.now.sound in let e = c.copy_cells.ensures in
    let p = (goal.at.loop-r-preserved c).In-loop-r in let b = rows p in let h = held p in
    let start : t.offset + ((t.side - 3 + l.r) * t.stride + t.left) ≡ t.offset + (t.side - 3 + l.r) * t.stride + t.left = omega arith in
    at_again lent (owns t) (copied_row t) 0 3 l.r l.field _ c.copy_cells.new.self b.3 l.invariant e.same_borrow
    (row_copied (owns t) (copy_prog t l.r) (t.offset + (t.side - 3 + l.r) * t.stride) (l.r * t.stride) t.left t.right l.field c.copy_cells.new.self (omega (arith, b))
    (λ x f g s. copied_on t k c.requires.row_mode l.r x b.3 (mine_in t k x f g) (t.offset + (t.side - 3 + l.r) * t.stride + x)
    ((let z : t.offset + (t.side - 3 + l.r) * t.stride + x ≡ t.offset + ((t.side - 3 + l.r) * t.stride + x) = omega arith in z) ∙ last_is t k l.r x b.3) s)
    (omega (arith, b)) (omega (arith, b, h.y)) (omega (arith, b, h.x)) (omega (arith, b, h.ref)) (rw start at e.y) (rw start at e.x) (rw start at e.reference))

pub returns-clause-stored : goal.returns-clause-stored
unfolding copy_above
returns-clause-stored c = let l = c.loop-r in let t = geometry c.args.t.now in at_done lent (owns t) (copied_row t) 0 3 l.r _ _ c.loop-r-test.false l.invariant
