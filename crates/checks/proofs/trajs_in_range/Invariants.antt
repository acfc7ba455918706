-- `checks::trajs_in_range` meets its contract. Assumes nothing.
use Rattle.std.proofs.Common.{◌≡◌, ◌≤◌, pos, get_or}
use Rattle.store.specs.Store.{vec}
use Rattle.traj.specs.Traj.{traj_in_range}
use Rattle.project.specs.Tested.{all_below}
use Rattle.checks.proofs.trajs_in_range.Given as goal

abbrev pub invariant-loop-i : goal.invariant-loop-i
invariant-loop-i l =
    (l.i ≤ l.n) × (l.ok ≡ all_below l.i (λ k. traj_in_range (vec (get_or l.traj_y k (pos 0)) (get_or l.traj_x k (pos 0)))))
