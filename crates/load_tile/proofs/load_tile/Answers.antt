-- `load_tile::load_tile` meets its contract. Assumes nothing.
use Rattle.std.proofs.Common.{sym, ap, ◌∙◌, to_z-of_z, w8, SFits, rules}
use Rattle.frame.specs.declared.Frame.{Frame}
use Rattle.tile.specs.Tiles.{geometry}
use Rattle.field.specs.Lent.{store_of}
use Rattle.load_tile.proofs.Order.{in_order}
use Rattle.load_tile.proofs.load_tile.Goals.{After-empty_field, After-project_sources, After-tip_passes}
use Rattle.load_tile.proofs.load_tile.Goals as goal

pub returns-clause-stored : goal.returns-clause-stored
returns-clause-stored c =
    let a = c.args in let f = a.setup.now in
    let k1 = c.copy_rows in let k2 = c.empty_field in let k3 = c.clear_trajs in let k4 = c.project_sources in let k5 = c.tip_passes in let k6 = c.gap_passes in
    let u₀ = store_of a.field.now a.trajectories.now a.maps.now in
    let u₁ = store_of k1.new.field a.trajectories.now a.maps.now in
    let u₂ = store_of k2.new.field a.trajectories.now a.maps.now in
    let u₄ = store_of k4.new.field k4.new.trajectories k4.new.maps in
    let u₅ = store_of k5.new.field k4.new.trajectories k4.new.maps in
    let d : SFits w8 f.tip.delta = search rules in
    λ q e. in_order (geometry a.t.now) q a.asked.whole_frame a.asked.traj e.whole_frame e.traj u₀ u₁ u₂ _ u₄ u₅ _ (k1.ensures.stored u₀) (k2.ensures.stored u₁) (k3.ensures.stored u₂)
    (k4.ensures.stored q (ap (λ (f : Frame). f.sources) e.setup) (ap (λ (f : Frame). f.rp_ref) e.setup) e.traj e.planes)
    (k5.ensures.stored q (ap (λ (f : Frame). f.tip_frame_mode) e.setup) (ap (λ (f : Frame). f.tip.delta) e.setup ∙ sym (to_z-of_z d)) e.holes u₄) (k6.ensures.stored q (ap (λ (f : Frame). f.n_refs) e.setup) u₅)
