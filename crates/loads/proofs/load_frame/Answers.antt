-- `loads::load_frame` meets its contract. The invariant: what is left of the frame's calls, on the lists as they are, is all of them on the lists as they were (`GoingOn`). Assumes nothing.
use Rattle.std.proofs.Common.{refl, ◌<◌, arith, rules}
use Rattle.levels.specs.Answer.{number_of}
use Rattle.levels.proofs.Refusals.{number_pos}
use Rattle.load.specs.Load.{high_of}
use Rattle.sources.proofs.Rounds.{IsSameParts, parts}
use Rattle.loads.proofs.Frame.{rows_begin, rows_on, rows_stop, rows_end}
use Rattle.loads.proofs.load_frame.Goals.{After-load_row}
use Rattle.loads.proofs.load_frame.Goals as goal

-- the lists that are lent stay the same
same : (c : After-load_row) → IsSameParts (parts c.load_row.new.field c.load_row.new.trajectories c.load_row.new.maps) (parts c.loop-row.field c.loop-row.trajectories c.loop-row.maps)
same c = let e = c.load_row.ensures in record { field = e.same_field; trajs = e.same_trajectories; maps = e.same_maps }

pub loop-row-init : goal.loop-row-init
loop-row-init c = let a = c.args in rows_begin a.setup.now a.traj a.holes a.planes.now a.ends.now _

pub returns-in_err-load_row-clause-loaded : goal.returns-in_err-load_row-clause-loaded
returns-in_err-load_row-clause-loaded c =
    let a = c.args in let l = c.loop-row in let k = c.load_row in let r = c.in_err-load_row in
    let below : l.row < high_of a.setup.now = omega (arith, c.high_of-row-end.ensures.value, c.loop-row-test.true) in
    let e = rows_stop a.setup.now a.traj a.holes a.planes.now a.ends.now l.row (number_of r.field-0.0) (parts l.field l.trajectories l.maps) (parts k.new.field k.new.trajectories k.new.maps) _ below (rw r.was at k.ensures.loaded) (λ z. omega (arith, number_pos r.field-0.0, z)) l.invariant in
    search rules

pub loop-row-preserved : goal.loop-row-preserved
loop-row-preserved c =
    let a = c.args in let l = c.loop-row in let k = c.load_row in
    let below : l.row < high_of a.setup.now = omega (arith, c.high_of-row-end.ensures.value, c.loop-row-test.true) in
    rw c.side_of-side.ensures.value (rows_on a.setup.now a.traj a.holes a.planes.now a.ends.now l.row 0 (parts l.field l.trajectories l.maps) (parts k.new.field k.new.trajectories k.new.maps) _ below (rw c.in_ok-load_row.was at k.ensures.loaded) refl (same (goal.at.loop-row-preserved c).After-load_row) l.invariant)

pub returns-clause-loaded : goal.returns-clause-loaded
returns-clause-loaded c =
    let a = c.args in let l = c.loop-row in
    rows_end a.setup.now a.traj a.holes a.planes.now a.ends.now l.row _ _ (omega (arith, c.high_of-row-end.ensures.value, c.loop-row-test.false)) l.invariant

-- after the last row by the other way
pub returns-in_ok-load_row-clause-loaded : goal.returns-in_ok-load_row-clause-loaded
returns-in_ok-load_row-clause-loaded c =
    let a = c.args in let l = c.loop-row in let k = c.load_row in
    let below : l.row < high_of a.setup.now = omega (arith, c.high_of-row-end.ensures.value, c.loop-row-test.true) in
    let g = rows_on a.setup.now a.traj a.holes a.planes.now a.ends.now l.row 0 (parts l.field l.trajectories l.maps) (parts k.new.field k.new.trajectories k.new.maps) _ below (rw c.in_ok-load_row.was at k.ensures.loaded) refl (same (goal.at.returns-in_ok-load_row-clause-loaded c).After-load_row) l.invariant in
    rows_end a.setup.now a.traj a.holes a.planes.now a.ends.now _ _ _ (omega arith) g
