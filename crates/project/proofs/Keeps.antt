-- Each trajectory that projection writes is one that test 12 lets through. Assumes nothing.
use Rattle.std.proofs.Common.{Bool, List, ℕ, arith, ℤ}
use Rattle.levels.specs.declared.Mv.{Mv}
use Rattle.entry.specs.declared.Source.{Source}
use Rattle.store.proofs.Keeps.{Keeps}
use Rattle.tile.specs.Geometry.{Geometry}
use Rattle.traj.proofs.Range.{InRange, clipped_in, keeps_enter_end, keeps_check_traj_intersect}
use Rattle.project.specs.Project.{to_source, to_reference, put_trajs, put_mv, project_mv, sample, project_source}

module _ (t : Geometry) where
  keeps_put_trajs : (s : Source) (b : ℕ) (v : Mv) (y x y₁ x₁ : ℕ) → Keeps InRange (put_trajs t s b v y x y₁ x₁)
  unfolding put_trajs
  keeps_put_trajs s b v y x y₁ x₁ =
      (clipped_in 2047 (to_source s b v) (omega arith), (tt, (λ e. (clipped_in 2047 (to_reference s b v) (omega arith), keeps_enter_end t _ y₁ x₁ y x v), λ e. tt)))

  keeps_project_mv : (traj : Bool) (s : Source) (b : ℕ) (v : Mv) (y x : ℕ) → Keeps InRange (project_mv t traj s b v y x)
  unfolding project_mv put_mv
  keeps_project_mv traj s b v y x = (λ e old was. (λ g. ((λ q. keeps_put_trajs s b v y x _ _, λ q. tt), (tt, tt)), λ g. tt), λ e. tt)

  pub keeps_project_source : (traj : Bool) (present : List Bool) (planes : List ℤ) (s : Source) → Keeps InRange (project_source t traj present planes s)
  unfolding project_source sample
  keeps_project_source traj present planes s =
      (λ e y x. (λ g. ((λ q. keeps_check_traj_intersect t _ _ y x _, λ q. tt), keeps_project_mv traj s _ _ y x), λ g. tt), λ e. tt)
