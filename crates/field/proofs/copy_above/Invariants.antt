-- `field::copy_above` meets its contract. Assumes nothing.
use Rattle.store.proofs.Lent.{At}
use Rattle.store.specs.Program.{each}
use Rattle.tile.specs.Owner.{owns}
use Rattle.tile.specs.Tiles.{geometry}
use Rattle.field.proofs.Borrows.{lent}
use Rattle.field.proofs.Ways.{copy_prog}
use Rattle.field.proofs.copy_above.Given as goal

abbrev pub invariant-loop-r : goal.invariant-loop-r
invariant-loop-r l = At lent (owns (geometry l.t)) (λ r. each l.t.left l.t.right (copy_prog (geometry l.t) r)) 0 3 l.r l.field l.initial.field
