-- `gaps::fill_gap_proj` meets its contract. Assumes nothing.
use Rattle.field.specs.Field.{fill_gap_proj}
use Rattle.gaps.proofs.fill_gap_proj.Goals as goal

pub returns-clause-stored : goal.returns-clause-stored
unfolding fill_gap_proj
returns-clause-stored c = c.walk.ensures.stored
