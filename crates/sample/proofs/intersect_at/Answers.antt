-- `sample::intersect_at` meets its contract. Assumes nothing.
use Rattle.landing.proofs.Landings.{in_range}
use Rattle.sample.proofs.intersect_at.Goals as goal

pub check_traj_intersect-requires-clause-y : goal.check_traj_intersect-requires-clause-y
check_traj_intersect-requires-clause-y c = record { within = (in_range c.args.v c.requires.vector).0 }

pub check_traj_intersect-requires-clause-x : goal.check_traj_intersect-requires-clause-x
check_traj_intersect-requires-clause-x c = record { within = (in_range c.args.v c.requires.vector).1 }
