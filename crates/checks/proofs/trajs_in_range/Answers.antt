-- `checks::trajs_in_range` meets its contract. Assumes nothing.
use Rattle.std.proofs.Common.{refl, ap, ◌∙◌, arith, pos, get_or}
use Rattle.store.specs.Store.{vec}
use Rattle.traj.specs.Traj.{traj_in_range}
use Rattle.project.specs.Tested.{all_below}
use Rattle.project.proofs.Tested.{all_turn, all_end}
use Rattle.checks.proofs.trajs_in_range.Goals as goal

pub loop-i-init : goal.loop-i-init
unfolding all_below
loop-i-init c = (omega arith, refl)

pub loop-i-preserved : goal.loop-i-preserved
loop-i-preserved c =
    let l = c.loop-i in let a = c.args in
    (omega arith, all_turn (λ k. traj_in_range (vec (get_or a.traj_y.now k (pos 0)) (get_or a.traj_x.now k (pos 0)))) l.i l.ok _ l.invariant.1 (c.traj_in_range-ok.ensures ∙ ap traj_in_range c.vector_at.ensures))

pub returns : goal.returns
returns c = let l = c.loop-i in all_end _ _ l.i l.ok l.invariant.0 c.loop-i-test.false l.invariant.1
