-- `traj::gap_traj` meets its contract. Assumes nothing.
use Rattle.std.proofs.Common.{sym}
use Rattle.store.proofs.Held.{none_empty, some_vector}
use Rattle.tile.specs.Tiles.{geometry}
use Rattle.tile.proofs.Places.{col_low}
use Rattle.tile.proofs.Samples.{gaps_of}
use Rattle.traj.proofs.Rows.{within_at}
use Rattle.traj.proofs.Ways.{cell_of, gap_off, gap_on}
use Rattle.traj.proofs.gap_traj.Goals as goal

pub cell-requires : goal.cell-requires
cell-requires c =
    let a = c.args in let t = geometry a.t.now in let k = a.t.now.sound in
    within_at t k c.traj_in.result a.n a.at.y a.at.x c.traj_in.ensures c.requires.slot (col_low t k a.at.x c.requires.sampled.cell.right) a.trajectories.now c.requires.held

pub returns-in_default-clause-stored : goal.returns-in_default-clause-stored
returns-in_default-clause-stored c =
    let a = c.args in
    gap_off (geometry a.t.now) a.t.now.sound a.n c.requires.slot a.at.start a.at.end a.at.y a.at.x c.requires.sampled c.requires.step a.trajectories.now c.traj_in.result c.traj_in.ensures
    (none_empty (cell_of a.trajectories.now c.traj_in.result) c.cell.result c.cell.ensures c.in_default.is)

pub put_gaps_traj-requires-clause-gaps : goal.put_gaps_traj-requires-clause-gaps
put_gaps_traj-requires-clause-gaps c = let a = c.args in gaps_of (geometry a.t.now) a.t.now.sound a.at.start a.at.end a.at.y a.at.x c.requires.sampled c.requires.step

pub returns-clause-stored : goal.returns-clause-stored
returns-clause-stored c =
    let a = c.args in
    let e = some_vector (cell_of a.trajectories.now c.traj_in.result) c.in-Some.v c.cell.result c.cell.ensures c.in-Some.is in
    gap_on (geometry a.t.now) a.t.now.sound a.n c.requires.slot a.at.start a.at.end a.at.y a.at.x c.requires.sampled c.requires.step a.trajectories.now c.traj_in.result c.traj_in.ensures e.0
    c.in-Some.v c.beside-a.result c.beside-b.result c.beside-c.result c.has_right-right.result c.has_below-below.result c.put_gaps_traj.new.trajectories (sym e.1) c.has_right-right.ensures c.has_below-below.ensures c.beside-a.ensures c.beside-b.ensures c.beside-c.ensures c.put_gaps_traj.ensures.stored
