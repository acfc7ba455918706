-- `loads::load_row` meets its contract. The invariant: what is left of the row's calls, on the lists as they are, is all of them on the lists as they were (`Going`). Assumes nothing.
use Rattle.std.proofs.Common.{ap, refl, ℕ, ◌+◌, arith, rules}
use Rattle.levels.specs.Answer.{number_of}
use Rattle.levels.proofs.Refusals.{number_pos}
use Rattle.sources.proofs.Rounds.{IsSameParts, parts}
use Rattle.loads.proofs.Frame.{going_first, row_on, row_stop, row_end}
use Rattle.loads.proofs.load_row.Goals.{After-load_tmvs}
use Rattle.loads.proofs.load_row.Goals as goal

-- the lists that are lent stay the same
same : (c : After-load_tmvs) → IsSameParts (parts c.load_tmvs.new.field c.load_tmvs.new.trajectories c.load_tmvs.new.maps) (parts c.loop-end.field c.loop-end.trajectories c.loop-end.maps)
same c = let e = c.load_tmvs.ensures in record { field = e.same_field; trajs = e.same_trajectories; maps = e.same_maps }

pub loop-end-init : goal.loop-end-init
loop-end-init c = going_first _ _

pub returns-in_err-load_tmvs-clause-loaded : goal.returns-in_err-load_tmvs-clause-loaded
returns-in_err-load_tmvs-clause-loaded c =
    let a = c.args in let l = c.loop-end in let k = c.load_tmvs in let r = c.in_err-load_tmvs in
    let e = row_stop a.setup.now a.traj a.holes a.planes.now a.row a.ends.now l.end-index l.start _ (number_of r.field-0.0) _ (parts l.field l.trajectories l.maps) (parts k.new.field k.new.trajectories k.new.maps) _ c.loop-end-test.true (ap (λ (n : ℕ). a.row + n) c.side_of.ensures.value) (rw r.was at k.ensures.answer) k.ensures.stored (λ z. omega (arith, number_pos r.field-0.0, z)) l.invariant in
    search rules

pub loop-end-preserved : goal.loop-end-preserved
loop-end-preserved c =
    let a = c.args in let l = c.loop-end in let k = c.load_tmvs in
    row_on a.setup.now a.traj a.holes a.planes.now a.row a.ends.now l.end-index l.start _ 0 _ (parts l.field l.trajectories l.maps) (parts k.new.field k.new.trajectories k.new.maps) _ c.loop-end-test.true (ap (λ (n : ℕ). a.row + n) c.side_of.ensures.value) (rw c.in_ok-load_tmvs.was at k.ensures.answer) k.ensures.stored refl (same (goal.at.loop-end-preserved c).After-load_tmvs) l.invariant

pub returns-clause-loaded : goal.returns-clause-loaded
returns-clause-loaded c =
    let a = c.args in let l = c.loop-end in
    row_end a.setup.now a.traj a.holes a.planes.now a.row a.ends.now l.end-index l.start _ _ _ c.loop-end-test.false l.invariant
