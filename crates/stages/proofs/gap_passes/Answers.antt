-- `stages::gap_passes` meets its contract. Assumes nothing.
use Rattle.store.specs.Lent.{with_trajs}
use Rattle.tile.specs.Tiles.{geometry}
use Rattle.field.specs.Lent.{stored}
use Rattle.stages.proofs.Ways.{gaps_on}
use Rattle.stages.proofs.gap_passes.Goals as goal

pub returns-then-t-gt1-clause-stored : goal.returns-then-t-gt1-clause-stored
returns-then-t-gt1-clause-stored c =
    let a = c.args in
    λ q e s. gaps_on (geometry a.t.now) q c.if-t-gt1.true _ _ _ (rw e (c.fill_gap_trajs.ensures.stored (stored s a.field.now))) (c.fill_gap_proj.ensures.stored (with_trajs s c.fill_gap_trajs.new.trajectories))
