-- `put::put_trajs` meets its contract. Assumes nothing.
use Rattle.tile.specs.Tiles.{geometry}
use Rattle.project.specs.Project.{ref2idx}
use Rattle.landing.proofs.Landings.{no_slot, slot_is}
use Rattle.put.proofs.Steps.{trajs_one, trajs_two}
use Rattle.put.proofs.put_trajs.Goals as goal

pub returns-in_default-clause-stored : goal.returns-in_default-clause-stored
returns-in_default-clause-stored c =
    let a = c.args in let e = a.e.now.entry in
    λ we. trajs_one (geometry a.t.now) a.v a.from.y a.from.x a.to.y a.to.x e.source.now e.reference c.index-n.result a.w c.index-n.ensures we a.trajectories.now a.maps.now c.put_traj.new.trajectories c.enter_place.new.maps c.put_traj.ensures.stored c.enter_place.ensures.stored
    (no_slot (ref2idx e.source.now e.reference) c.slot.result c.slot.ensures.slot c.in_default.is)

pub returns-clause-stored : goal.returns-clause-stored
returns-clause-stored c =
    let a = c.args in let e = a.e.now.entry in
    let i = slot_is (ref2idx e.source.now e.reference) c.slot.result c.slot.ensures.slot c.in-Some.m c.in-Some.is in
    λ we. trajs_two (geometry a.t.now) a.v a.from.y a.from.x a.to.y a.to.x e.source.now e.reference c.index-n.result a.w c.index-n.ensures we a.trajectories.now a.maps.now c.put_traj.new.trajectories c.enter_place.new.maps c.put_traj.ensures.stored c.enter_place.ensures.stored
    c.in-Some.m c.to_reference.result i.0 i.1 c.to_reference.ensures c.put_traj-2.new.trajectories c.enter_end.new.maps c.put_traj-2.ensures.stored c.enter_end.ensures.stored
