-- `checks::check_contents` meets its contract. Assumes nothing.
use Rattle.std.proofs.Common.{◌≡◌, refl, subst, ◌&&◌, List, ◌*◌, ℤ, pos, get_or}
use Rattle.frame.specs.declared.Frame.{Frame}
use Rattle.store.specs.Store.{Store, vec, with_traj}
use Rattle.tile.specs.Geometry.{Geometry}
use Rattle.tile.specs.Layout.{row_cells}
use Rattle.traj.specs.Traj.{traj_in_range}
use Rattle.project.specs.Tested.{all_below}
use Rattle.load.specs.declared.Asked.{Asked}
use Rattle.load.specs.Asked.{call_of}
use Rattle.load.specs.Load.{tile_of}
use Rattle.load.specs.Calls.{source_fine, trajs_in_range, contents_fine}
use Rattle.checks.specs.Code.{fine_at}
use Rattle.checks.proofs.Tests.{tests}
use Rattle.checks.proofs.check_contents.Goals as goal

-- the two tests with the tile as a value
contents_are : (f : Frame) (a : Asked) (planes ty tx : List ℤ) (s : Store) (t : Geometry) → tile_of (call_of f a planes) ≡ t
    → (all_below f.sources.n_mfmvs (fine_at t planes f) && all_below (7 * (t.side * t.stride)) (λ i. traj_in_range (vec (get_or ty i (pos 0)) (get_or tx i (pos 0)))))
    ≡ contents_fine (call_of f a planes) (with_traj s ty tx s.map_y s.map_x)
unfolding contents_fine trajs_in_range source_fine row_cells
contents_are f a planes ty tx s t k =
    subst (λ (t : Geometry).
    (all_below f.sources.n_mfmvs (fine_at t planes f) && all_below (7 * (t.side * t.stride)) (λ i. traj_in_range (vec (get_or ty i (pos 0)) (get_or tx i (pos 0)))))
    ≡ contents_fine (call_of f a planes) (with_traj s ty tx s.map_y s.map_x)) k refl

pub returns : goal.returns
returns c =
    λ a s k. rw (← contents_are _ a _ _ _ s _ k) (tests _ _ _ (rw (c.sources_fine.ensures, c.trajs_in_range.ensures) at c.refused_if.ensures))
