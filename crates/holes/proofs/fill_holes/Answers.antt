-- `holes::fill_holes` meets its contract. Assumes nothing.
use Rattle.intops.proofs.Signed.{back}
use Rattle.field.specs.Field.{fill_holes}
use Rattle.holes.proofs.fill_holes.Goals as goal

pub returns-clause-stored : goal.returns-clause-stored
unfolding fill_holes
returns-clause-stored c = let f = c.ranges.delta in simp back at c.walk.ensures.stored
