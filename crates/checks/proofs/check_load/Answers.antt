-- `checks::check_load` meets its contract. Assumes nothing.
use Rattle.field.specs.Lent.{store_of}
use Rattle.checks.proofs.check_load.Goals as goal

pub returns : goal.returns
returns c =
    let a = c.args in
    c.check_call.ensures c.args.asked.traj c.args.asked.holes (store_of a.field.now a.trajectories.now a.maps.now) (c.of-lengths.ensures a.trajectories.now.y.now a.trajectories.now.x.now)
