-- `gaps::put_gaps_proj` meets its contract. Assumes nothing.
use Rattle.std.proofs.Common.{◌+◌, arith}
use Rattle.tile.specs.Tiles.{geometry}
use Rattle.tile.proofs.Owner.{mine_low}
use Rattle.field.proofs.Borrows.{same_after, held_after}
use Rattle.gaps.proofs.Ways.{within_row, gaps_on}
use Rattle.gaps.proofs.put_gaps_proj.Goals as goal

pub overflow_add-x : goal.overflow_add-x
overflow_add-x c = let a = c.args in omega (arith, mine_low (geometry a.t.now) a.t.now.sound a.x c.requires.gaps.here, a.t.now.sound.stride_low)

pub field_at-requires-clause-column : goal.field_at-requires-clause-column
field_at-requires-clause-column c = let a = c.args in mine_low (geometry a.t.now) a.t.now.sound (a.x + 1) c.requires.gaps.right

pub put-requires : goal.put-requires
put-requires c = let a = c.args in within_row (geometry a.t.now) a.t.now.sound _ a.y (a.x + 1) c.field_at.ensures c.requires.gaps.right a.field.now c.requires.held

pub field_at-requires-2-clause-column : goal.field_at-requires-2-clause-column
field_at-requires-2-clause-column c = let a = c.args in mine_low (geometry a.t.now) a.t.now.sound a.x c.requires.gaps.here

pub put-requires-2 : goal.put-requires-2
put-requires-2 c =
    let a = c.args in let t = geometry a.t.now in
    within_row t a.t.now.sound _ (a.y + 1) a.x c.field_at-2.ensures c.requires.gaps.here c.put.new.self (held_after t c.put.ensures.same_borrow c.requires.held)

pub overflow_add-x-2 : goal.overflow_add-x-2
overflow_add-x-2 c = let a = c.args in omega (arith, mine_low (geometry a.t.now) a.t.now.sound a.x c.requires.gaps.here, a.t.now.sound.stride_low)

pub field_at-requires-3-clause-column : goal.field_at-requires-3-clause-column
field_at-requires-3-clause-column c = let a = c.args in mine_low (geometry a.t.now) a.t.now.sound (a.x + 1) c.requires.gaps.right

pub put-requires-3 : goal.put-requires-3
put-requires-3 c =
    let a = c.args in let t = geometry a.t.now in
    within_row t a.t.now.sound _ (a.y + 1) (a.x + 1) c.field_at-3.ensures c.requires.gaps.right c.put-2.new.self (held_after t (same_after c.put-2.ensures.same_borrow c.put.ensures.same_borrow) c.requires.held)

pub returns-clause-stored : goal.returns-clause-stored
returns-clause-stored c v w b d p q r s =
    let a = c.args in
    gaps_on (geometry a.t.now) a.t.now.sound a.y a.x c.requires.gaps a.field.now v w b d a.r c.field_at.result c.field_at-2.result c.field_at-3.result a.beside a.below a.between c.put.new.self c.put-2.new.self c.put-3.new.self
    c.field_at.ensures c.field_at-2.ensures c.field_at-3.ensures p q r c.put.ensures.stored c.put-2.ensures.stored c.put-3.ensures.stored s
