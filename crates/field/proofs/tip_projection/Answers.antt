-- `field::tip_projection` meets its contract. Assumes nothing.
use Rattle.intops.proofs.Signed.{back}
use Rattle.field.specs.Field.{tip_projection}
use Rattle.field.proofs.tip_projection.Goals as goal

pub returns-clause-stored : goal.returns-clause-stored
unfolding tip_projection
returns-clause-stored c = let f = c.ranges.delta in simp back at c.walk.ensures.stored
