-- A load's passes in their order: what each does to the store before it is given. Assumes nothing.
use Rattle.std.proofs.Common.{◌≡◌, ap, ◌∙◌, Bool, not}
use Rattle.store.specs.Store.{Store}
use Rattle.store.specs.Program.{run, when}
use Rattle.tile.specs.Geometry.{Geometry}
use Rattle.tile.specs.Owner.{owns}
use Rattle.field.specs.Field.{copy_above, empty_field}
use Rattle.traj.specs.Traj.{empty_trajs}
use Rattle.load.specs.Load.{Call, project_sources, load_tmvs}
use Rattle.stages.proofs.Ways.{tips_if, gaps_if}

-- the mode and the switch stand as code has them
pub in_order : (t : Geometry) (c : Call) (whole traj : Bool) → c.whole_frame ≡ whole → c.traj ≡ traj → (u₀ u₁ u₂ u₃ u₄ u₅ u₆ : Store)
    → u₁ ≡ run (owns t) (when (not whole) (copy_above t)) u₀ → u₂ ≡ run (owns t) (empty_field t) u₁ → u₃ ≡ run (owns t) (when traj (empty_trajs t)) u₂
    → u₄ ≡ run (owns t) (project_sources t c) u₃ → u₅ ≡ run (owns t) (tips_if t c) u₄ → u₆ ≡ run (owns t) (gaps_if t c) u₅
    → u₆ ≡ run (owns t) (load_tmvs t c) u₀
unfolding load_tmvs
in_order t c whole traj we te u₀ u₁ u₂ u₃ u₄ u₅ u₆ e₁ e₂ e₃ e₄ e₅ e₆ =
    e₆ ∙ ap (run (owns t) (gaps_if t c)) (e₅ ∙ ap (run (owns t) (tips_if t c)) (e₄ ∙ ap (run (owns t) (project_sources t c)) (e₃
    ∙ rw (← te) (ap (run (owns t) (when c.traj (empty_trajs t))) (e₂ ∙ ap (run (owns t) (empty_field t)) (e₁ ∙ rw we))))))
