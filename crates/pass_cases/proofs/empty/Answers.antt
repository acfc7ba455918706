-- `pass_cases::empty` meets its contract. Assumes nothing.
use Rattle.tile.specs.Tiles.{geometry}
use Rattle.field.specs.Lent.{store_of}
use Rattle.pass_cases.proofs.PassCase.{emptied}
use Rattle.pass_cases.proofs.empty.Goals as goal

pub returns-clause-stored : goal.returns-clause-stored
returns-clause-stored c =
    let a = c.args in
    let u₀ = store_of a.field.now a.trajectories.now a.maps.now in
    let u₁ = store_of c.copy_rows.new.field a.trajectories.now a.maps.now in
    let u₂ = store_of c.empty_field.new.field a.trajectories.now a.maps.now in
    emptied (geometry a.t.now) a.asked.whole_frame a.asked.traj u₀ u₁ u₂ _ (c.copy_rows.ensures.stored u₀) (c.empty_field.ensures.stored u₁) (c.clear_trajs.ensures.stored u₂)
