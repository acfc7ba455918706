-- `pass_cases::run_pass` meets its contract. Assumes nothing.
use Rattle.intops.proofs.Signed.{back}
use Rattle.store.specs.Store.{Store}
use Rattle.field.specs.Lent.{store_of}
use Rattle.pass_cases.proofs.run_pass.Goals.{Start}
use Rattle.pass_cases.proofs.run_pass.Goals as goal

-- the store as it is lent
abbrev was : Start → Store
was s = let a = s.args in store_of a.field.now a.trajectories.now a.maps.now

pub returns-in-TipProjection-clause-stored : goal.returns-in-TipProjection-clause-stored
returns-in-TipProjection-clause-stored c = let d = c.ranges.delta in let e = simp back at (c.tip_projection.ensures.stored (was (goal.at.returns-in-TipProjection-clause-stored c).Start)) in rw c.in-TipProjection.is e

pub returns-in-FillHoles-clause-stored : goal.returns-in-FillHoles-clause-stored
returns-in-FillHoles-clause-stored c = let d = c.ranges.delta in let e = simp back at (c.fill_holes.ensures.stored (was (goal.at.returns-in-FillHoles-clause-stored c).Start)) in rw c.in-FillHoles.is e

pub returns-in-Smoothen-clause-stored : goal.returns-in-Smoothen-clause-stored
returns-in-Smoothen-clause-stored c = let d = c.ranges.delta in let e = simp back at (c.smoothen.ensures.stored (was (goal.at.returns-in-Smoothen-clause-stored c).Start)) in rw c.in-Smoothen.is e

pub returns-in-FillGapProj-clause-stored : goal.returns-in-FillGapProj-clause-stored
returns-in-FillGapProj-clause-stored c = rw c.in-FillGapProj.is (c.fill_gap_proj.ensures.stored (was (goal.at.returns-in-FillGapProj-clause-stored c).Start))

pub returns-in-FillGapTraj-clause-stored : goal.returns-in-FillGapTraj-clause-stored
returns-in-FillGapTraj-clause-stored c = rw c.in-FillGapTraj.is (c.fill_gap_trajs.ensures.stored (was (goal.at.returns-in-FillGapTraj-clause-stored c).Start))

pub returns-in-CheckTrajIntersect-clause-stored : goal.returns-in-CheckTrajIntersect-clause-stored
returns-in-CheckTrajIntersect-clause-stored c = rw c.in-CheckTrajIntersect.is (c.check_traj_intersect.ensures.stored (was (goal.at.returns-in-CheckTrajIntersect-clause-stored c).Start))
