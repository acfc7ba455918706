-- An accepted load leaves every call's answer as it was. Assumes nothing.
use Rattle.std.proofs.Common.{◌≡◌, refl, sym, ap, ◌∙◌, Bool, true, false, ℕ, zero, suc, ◌*◌, ◌<◌, arith, ltb-true, ltb}
use Rattle.intops.proofs.Tests.{and_both}
use Rattle.store.specs.Store.{Store, trajs, rd}
use Rattle.store.proofs.Local.{Local, local_run}
use Rattle.store.proofs.Keeps.{Keeps, Good, good_run}
use Rattle.tile.specs.Geometry.{Geometry}
use Rattle.tile.specs.Layout.{row_cells}
use Rattle.tile.specs.Owner.{own_block, owns, block_number}
use Rattle.field.proofs.Keeps.{keeps_copy_above, keeps_empty_field, keeps_tip_projection, keeps_fill_holes, keeps_smoothen, keeps_fill_gap_proj}
use Rattle.traj.specs.Traj.{traj_in_range}
use Rattle.traj.proofs.Range.{InRange, empty_in, keeps_empty_trajs, keeps_fill_gap_traj}
use Rattle.project.specs.Tested.{all_below}
use Rattle.project.proofs.Tested.{all_below_lem}
use Rattle.project.proofs.Keeps.{keeps_project_source}
use Rattle.load.specs.Load.{Call, tile_of, project_sources, tip_passes, gap_passes, load_tmvs}
use Rattle.load.specs.Calls.{long_enough, source_fine, trajs_in_range, contents_fine, answer, load}
use Rattle.load.proofs.Accepted.{Passed, passed}
use Rattle.load.proofs.Held.{long}

-- ---- each trajectory that a load writes is one that test 12 lets through

module _ (t : Geometry) where
  keeps_load : (c : Call) → Keeps InRange (load_tmvs t c)
  unfolding load_tmvs project_sources tip_passes gap_passes
  keeps_load c = (
    (λ e. keeps_copy_above InRange t, λ e. tt),
    (
      keeps_empty_field InRange t,
      (
        (λ e. keeps_empty_trajs t, λ e. tt),
        (
          λ n. keeps_project_source t c.traj c.setup.rp_ref c.planes _,
          (
            (λ e. (keeps_tip_projection InRange t _, (λ q. (keeps_fill_holes InRange t _, keeps_smoothen InRange t _), λ q. tt)), λ e. tt),
            (λ e. (λ n. keeps_fill_gap_traj t n, keeps_fill_gap_proj InRange t), λ e. tt),
          ),
        ),
      ),
    ),
  )

-- ---- so the tests say what they said

pub local_load : (c : Call) → Local (owns (tile_of c)) (load c)
unfolding load
local_load c = local_run (owns (tile_of c)) (load_tmvs (tile_of c) c)

all_same : (n : ℕ) (p q : ℕ → Bool) → ((i : ℕ) → p i ≡ q i) → all_below n p ≡ all_below n q
unfolding all_below
all_same zero p q h = refl
all_same (suc n) p q h = rw (all_same n p q h, h n)

-- an owned trajectory is one of those that test 12 looks at, and both lists have it
owned_low : (c : Call) (i : ℕ) → owns (tile_of c) trajs i ≡ true → i < 7 * row_cells (tile_of c)
unfolding owns
owned_low c i h = ltb-true i (7 * row_cells (tile_of c)) (and_both (ltb i (7 * row_cells (tile_of c))) (own_block (tile_of c) (block_number (tile_of c) i)) h).0

module _ (c : Call) (s : Store) (h : Passed c s) where
  was : (i : ℕ) → owns (tile_of c) trajs i ≡ true → traj_in_range (rd s trajs i) ≡ true
  unfolding contents_fine trajs_in_range
  was i o =
      all_below_lem (7 * row_cells (tile_of c)) (λ j. traj_in_range (rd s trajs j))
      (and_both (all_below c.setup.sources.n_mfmvs (source_fine c)) (all_below (7 * row_cells (tile_of c)) (λ j. traj_in_range (rd s trajs j))) h.contents).1
      i (owned_low c i o)

  good : Good (owns (tile_of c)) InRange empty_in s
  good =
      record {
        within = λ i o. let l = long c s h.long in (omega (arith, owned_low c i o, l.traj_y), omega (arith, owned_low c i o, l.traj_x));
        good = was;
      }

  same_range : (i : ℕ) → traj_in_range (rd (load c s) trajs i) ≡ traj_in_range (rd s trajs i)
  unfolding load
  same_range i = go (owns (tile_of c) trajs i) refl
    where
      go : (b : Bool) → owns (tile_of c) trajs i ≡ b → traj_in_range (rd (load c s) trajs i) ≡ traj_in_range (rd s trajs i)
      go true o = (good_run (owns (tile_of c)) InRange empty_in (load_tmvs (tile_of c) c) (keeps_load (tile_of c) c) s good).good i o ∙ sym (was i o)
      go false o = ap traj_in_range ((local_load c).frame s trajs i o)

pub stays : (c d : Call) (s : Store) → answer c s ≡ 0 → answer d (load c s) ≡ answer d s
unfolding answer long_enough contents_fine trajs_in_range
stays c d s h =
    let l = (local_load c).keeps s in
    rw (
      l.field_y,
      l.field_x,
      l.field_ref,
      l.traj_y,
      l.traj_x,
      l.map_y,
      l.map_x,
      all_same (7 * row_cells (tile_of d)) (λ i. traj_in_range (rd (load c s) trajs i)) (λ i. traj_in_range (rd s trajs i)) (same_range c s (passed c s h)),
    )
