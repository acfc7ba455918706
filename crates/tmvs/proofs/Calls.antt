-- A call that is accepted, and one that is not, as code has them. Assumes nothing.
use Rattle.std.proofs.Common.{◌≡◌, sym, ap, ◌∙◌, subst, Bool, false, cond, ◌*◌, ◌≤◌, ne_eqb}
use Rattle.intops.proofs.Tests.{and_both}
use Rattle.store.specs.Store.{Store}
use Rattle.store.specs.Program.{run}
use Rattle.store.specs.Calls.{called}
use Rattle.tile.specs.Geometry.{Geometry}
use Rattle.tile.specs.Owner.{owns}
use Rattle.tile.specs.Sound.{FieldHeld, TrajHeld, MapHeld}
use Rattle.project.specs.Tested.{all_below}
use Rattle.project.proofs.Tested.{all_below_lem}
use Rattle.load.specs.Load.{Call, stride_of, tile_of, load_tmvs}
use Rattle.load.specs.Calls.{source_fine, trajs_in_range, contents_fine, answer, load}
use Rattle.load.proofs.Accepted.{passed, in_range, columns}
use Rattle.load.proofs.Held.{long, field_held, traj_held, map_held}
use Rattle.checks.specs.Code.{PlanesHeld}
use Rattle.sources.specs.Code.{SourcesFine}

-- what `load_tile` asks
pub record Ready (c : Call) (s : Store) (t : Geometry) : Type 0 where
  pub row_mode : c.whole_frame ≡ false → t.offset ≡ 3 * t.stride
  pub planes : PlanesHeld t c.planes
  pub fine : SourcesFine t c.setup.rp_ref c.planes c.setup.sources
  pub slots : c.setup.n_refs ≤ 7
  pub field : FieldHeld t s.field_y s.field_x s.field_ref
  pub trajectories : TrajHeld t s.traj_y s.traj_x
  pub maps : MapHeld t s.map_y s.map_x

pub rows_above : (c : Call) → c.whole_frame ≡ false → (tile_of c).offset ≡ 3 * (tile_of c).stride
unfolding tile_of
rows_above c h = ap (λ (w : Bool). cond w c.row_start 3 * stride_of c.setup) h

module _ (c : Call) (s : Store) where
  sources_fine : answer c s ≡ 0 → SourcesFine (tile_of c) c.setup.rp_ref c.planes c.setup.sources
  unfolding contents_fine source_fine
  sources_fine h =
      let p = passed c s h in let r = in_range c.setup p.setup in
      record {
        few = r.few;
        range = r.sources;
        blocks = all_below_lem c.setup.sources.n_mfmvs (source_fine c) (and_both (all_below c.setup.sources.n_mfmvs (source_fine c)) (trajs_in_range c s) p.contents).0;
      }

  own_tile : answer c s ≡ 0 → Ready c s (tile_of c)
  unfolding tile_of
  own_tile h =
      let p = passed c s h in let r = in_range c.setup p.setup in let k = columns c p.tile in let l = long c s p.long in
      record { row_mode = rows_above c; planes = l.planes; fine = sources_fine h; slots = r.slots; field = field_held c s l r k; trajectories = traj_held c s l; maps = map_held c s l }

  pub ready : answer c s ≡ 0 → (t : Geometry) → t ≡ tile_of c → Ready c s t
  ready h t e = subst (Ready c s) (sym e) (own_tile h)

  pub loaded : answer c s ≡ 0 → (t : Geometry) → t ≡ tile_of c → (u : Store) → u ≡ run (owns t) (load_tmvs t c) s → u ≡ called answer load c s
  unfolding load
  loaded h t e u p = p ∙ ap (λ (t : Geometry). run (owns t) (load_tmvs t c) s) e ∙ rw h

  pub turned_back : (answer c s ≡ 0 → ⊥) → s ≡ called answer load c s
  turned_back n = rw (ne_eqb (answer c s) 0 n)
