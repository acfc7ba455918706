-- `framefile::saved_at` meets its contract. Assumes nothing.
use Rattle.framefile.specs.File.{saved_at}
use Rattle.framefile.proofs.saved_at.Goals as goal

pub returns : goal.returns
unfolding saved_at
returns c = rw c.hints_at-ref_poc.ensures
