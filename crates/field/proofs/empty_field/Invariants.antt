-- `field::empty_field` meets its contract. Assumes nothing.
use Rattle.std.proofs.Common.{◌≡◌}
use Rattle.store.proofs.Lent.{At}
use Rattle.tile.specs.Owner.{owns}
use Rattle.tile.specs.Tiles.{geometry}
use Rattle.field.proofs.Borrows.{vectors}
use Rattle.field.proofs.Rows.{emptied_row}
use Rattle.field.proofs.empty_field.Given as goal

abbrev pub invariant-loop-y : goal.invariant-loop-y
invariant-loop-y l = At vectors (owns (geometry l.t)) (emptied_row (geometry l.t)) l.t.top l.t.bottom l.y l.field l.initial.field × (l.y-end ≡ l.t.bottom) × (l.field.reference.now ≡ l.initial.field.reference.now)
