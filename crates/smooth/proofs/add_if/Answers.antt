-- `smooth::add_if` meets its contract. Assumes nothing.
use Rattle.tile.specs.Tiles.{geometry}
use Rattle.field.proofs.Borrows.{vector_at}
use Rattle.smooth.proofs.add_if.Goals as goal

pub vector-requires : goal.vector-requires
vector-requires c = let a = c.args in vector_at (geometry a.t.now) a.t.now.sound _ a.y a.x c.field_at.ensures (c.requires.inside c.if-not-there.false) a.field.now c.requires.held
