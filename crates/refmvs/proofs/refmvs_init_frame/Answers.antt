-- `refmvs::refmvs_init_frame` meets its contract. Assumes nothing.
use Rattle.std.proofs.Common.{ap, ◌∙◌}
use Rattle.frame.specs.Frame.{setup_of}
use Rattle.refmvs.proofs.refmvs_init_frame.Goals as goal

pub returns : goal.returns
returns c = c.from-2.ensures ∙ c.init_frame.ensures ∙ ap setup_of c.from.ensures
