-- `framefile::plane_at` meets its contract. Assumes nothing.
use Rattle.framefile.specs.File.{plane_at}
use Rattle.framefile.proofs.plane_at.Goals as goal

pub returns : goal.returns
unfolding plane_at
returns c = rw c.present_before.ensures.value
