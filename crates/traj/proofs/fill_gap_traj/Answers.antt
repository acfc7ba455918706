-- `traj::fill_gap_traj` meets its contract. Assumes nothing.
use Rattle.traj.specs.Traj.{fill_gap_traj}
use Rattle.traj.proofs.fill_gap_traj.Goals as goal

pub returns-clause-stored : goal.returns-clause-stored
unfolding fill_gap_traj
returns-clause-stored c = c.walk.ensures.stored
