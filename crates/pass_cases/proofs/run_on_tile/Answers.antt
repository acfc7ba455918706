-- `pass_cases::run_on_tile` meets its contract. Assumes nothing.
use Rattle.tile.specs.Tiles.{geometry}
use Rattle.field.specs.Lent.{store_of}
use Rattle.pass_cases.proofs.PassCase.{Ready, ready}
use Rattle.pass_cases.proofs.run_on_tile.Goals.{In-Ok}
use Rattle.pass_cases.proofs.run_on_tile.Goals as goal

fine : (c : In-Ok) → Ready c.args.asked.whole_frame (store_of c.args.field.now c.args.trajectories.now c.args.maps.now) (geometry c.in-Ok.t)
fine c =
    let a = c.args in let e = c.in-Ok.ensures in
    ready a.setup.now a.asked (store_of a.field.now a.trajectories.now a.maps.now) e.accepted (geometry c.in-Ok.t) e.tile

pub run_pass-requires-clause-row_mode : goal.run_pass-requires-clause-row_mode
run_pass-requires-clause-row_mode c = (fine (goal.at.run_pass-requires-clause-row_mode c).In-Ok).row_mode

pub run_pass-requires-clause-field : goal.run_pass-requires-clause-field
run_pass-requires-clause-field c = (fine (goal.at.run_pass-requires-clause-field c).In-Ok).field

pub run_pass-requires-clause-trajectories : goal.run_pass-requires-clause-trajectories
run_pass-requires-clause-trajectories c = (fine (goal.at.run_pass-requires-clause-trajectories c).In-Ok).trajectories

pub run_pass-requires-clause-maps : goal.run_pass-requires-clause-maps
run_pass-requires-clause-maps c = (fine (goal.at.run_pass-requires-clause-maps c).In-Ok).maps
