-- An accepted load reads and writes the tile's own cells alone. Assumes nothing.
use Rattle.std.proofs.Common.{◌≡◌, refl, Bool, true, false, not, ◌&&◌, ◌||◌, ℕ, ◌+◌, ◌*◌, ◌<◌, arith, ltb-true, ltb, negsuc, get_or}
use Rattle.intops.specs.Choice.{eq_z}
use Rattle.intops.proofs.Tests.{and_both, not-false}
use Rattle.entry.specs.declared.Source.{Source}
use Rattle.frame.specs.Frame.{no_source}
use Rattle.store.specs.Store.{Store}
use Rattle.store.proofs.Owned.{Owned}
use Rattle.tile.specs.Geometry.{Geometry}
use Rattle.tile.specs.Owner.{owns}
use Rattle.tile.specs.Sound.{Sound}
use Rattle.tile.proofs.Places.{sides}
use Rattle.field.proofs.Owned.{owned_copy_above, owned_empty_field, owned_tip_projection, owned_fill_holes, owned_smoothen, owned_fill_gap_proj}
use Rattle.traj.proofs.Owned.{owned_empty_trajs, owned_fill_gap_traj}
use Rattle.project.specs.Project.{project_source}
use Rattle.project.specs.Tested.{all_below, row_fine}
use Rattle.project.proofs.Tested.{all_below_lem, slots_low}
use Rattle.project.proofs.Owned.{owned_project_source}
use Rattle.load.specs.Load.{Call, tile_of, project_sources, tip_passes, gap_passes, load_tmvs}
use Rattle.load.specs.Calls.{source_fine, trajs_in_range, contents_fine}
use Rattle.load.proofs.Accepted.{Passed, InRange, in_range, columns, sound}

-- test 12, of source n
fine_source : (c : Call) (n : ℕ) → source_fine c n ≡ true
    → (not (eq_z (get_or c.setup.sources.mfmv n no_source).ref2cur (negsuc 31)) && get_or c.setup.rp_ref (get_or c.setup.sources.mfmv n no_source).reference.0 false) ≡ true
    → row_fine (tile_of c) c.planes (get_or c.setup.sources.mfmv n no_source) ≡ true
unfolding source_fine
fine_source c n h e = go (eq_z s.ref2cur (negsuc 31)) (get_or c.setup.rp_ref s.reference.0 false) h e
  where
    s : Source
    s = get_or c.setup.sources.mfmv n no_source

    go : (a b : Bool) → (a || not b || row_fine (tile_of c) c.planes s) ≡ true → (not a && b) ≡ true → row_fine (tile_of c) c.planes s ≡ true
    go true b p q = cc
    go false true p q = p
    go false false p q = cc

offset_row : (c : Call) → c.whole_frame ≡ false → (tile_of c).offset ≡ 3 * (tile_of c).stride
unfolding tile_of
offset_row c e = rw e

pub owned_load : (c : Call) (s : Store) → Passed c s → Owned (owns (tile_of c)) (load_tmvs (tile_of c) c)
unfolding load_tmvs project_sources tip_passes gap_passes contents_fine
owned_load c s h = (
  (λ e. owned_copy_above t k (row_mode e), λ e. tt),
  (
    owned_empty_field t k,
    (
      (λ e. owned_empty_trajs t k, λ e. tt),
      (
        λ n l. source (0 + n * 1) (omega arith),
        (
          (λ e. (owned_tip_projection t k _, (λ q. (owned_fill_holes t k _, owned_smoothen t k _), λ q. tt)), λ e. tt),
          (λ e. (λ n l. owned_fill_gap_traj t k (0 + n * 1) (omega (arith, r.slots)) (two e), owned_fill_gap_proj t k (two e)), λ e. tt),
        ),
      ),
    ),
  ),
)
  where
    t : Geometry
    t = tile_of c

    r : InRange c.setup
    r = in_range c.setup h.setup

    k : Sound t
    k = sound c r (columns c h.tile)

    fine : all_below c.setup.sources.n_mfmvs (source_fine c) ≡ true
    fine = (and_both (all_below c.setup.sources.n_mfmvs (source_fine c)) (trajs_in_range c s) h.contents).0

    source : (n : ℕ) → n < c.setup.sources.n_mfmvs → Owned (owns t) (project_source t c.traj c.setup.rp_ref c.planes (get_or c.setup.sources.mfmv n no_source))
    source n l =
        owned_project_source t k (get_or c.setup.sources.mfmv n no_source) (slots_low _ (r.sources n l)) c.traj c.setup.rp_ref c.planes
        (fine_source c n (all_below_lem c.setup.sources.n_mfmvs (source_fine c) fine n l))

    row_mode : not c.whole_frame ≡ true → t.offset ≡ 3 * t.stride
    row_mode e = offset_row c (not-false c.whole_frame e)

    two : ltb 1 t.step ≡ true → t.step ≡ 2
    two e = let l : 1 < t.step = ltb-true 1 t.step e in sides t k (λ B d. 1 < d → d ≡ 2) (λ q. omega arith) (λ q. refl) (λ q. omega arith) (λ q. refl) l
