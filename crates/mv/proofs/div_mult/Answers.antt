-- `mv::div_mult` meets its contract. Assumes nothing.
use Rattle.mv.specs.Projection.{reciprocal}
use Rattle.mv.proofs.Projection.{reciprocals, reciprocals_at}
use Rattle.mv.proofs.div_mult.Goals as goal

pub returns : goal.returns
unfolding reciprocals reciprocal
returns c = reciprocals_at c.args.d c.requires
