-- `Field::empty_cells` meets its contract. Assumes nothing.
use Rattle.std.proofs.Common.{◌≡◌, pos}
use Rattle.store.specs.Lent.{filled}
use Rattle.field.specs.Lent.{IsSameField}
use Rattle.field.proofs.Field.empty_cells.Given as goal

abbrev pub invariant-loop-i : goal.invariant-loop-i
invariant-loop-i l = IsSameField l.self l.initial.self
    × (filled (pos 2097152) l.i l.b l.self.y.now ≡ filled (pos 2097152) l.a l.b l.initial.self.y.now)
    × (filled (pos 0) l.i l.b l.self.x.now ≡ filled (pos 0) l.a l.b l.initial.self.x.now)
    × (l.self.reference.now ≡ l.initial.self.reference.now)
