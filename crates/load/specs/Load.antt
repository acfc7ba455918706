-- The load of a tile (01 "Store": "A load does, in order"; load_tmvs). Assumes nothing.
use Rattle.std.specs.Prelude.{Bool, not, cond, ◌&&◌, List, ℕ, ◌+◌, ◌*◌, ◌/◌, min, eqb, ltb, ℤ, get_or}
use Rattle.frame.specs.declared.Frame.{Frame}
use Rattle.frame.specs.Frame.{no_source}
use Rattle.store.specs.Program.{Prog, when, each, ◌>>◌}
use Rattle.tile.specs.Geometry.{Geometry}
use Rattle.field.specs.Field.{copy_above, empty_field, tip_projection, fill_holes, smoothen, fill_gap_proj}
use Rattle.traj.specs.Traj.{empty_trajs, fill_gap_traj}
use Rattle.project.specs.Project.{project_source}

-- what a load is asked for: a setup, the mode (row or whole-frame, have_frame_threading), the switches (mv_traj, tip_hole_fill), the tile's columns and rows, the planes
pub record Call : Type 0 where
  pub setup : Frame
  pub whole_frame : Bool
  pub traj : Bool
  pub holes : Bool
  pub col_start : ℕ
  pub col_end : ℕ
  pub row_start : ℕ
  pub row_end : ℕ
  pub planes : List ℤ

-- ---- 01 "Setup record": what the loader works out of the record

-- "Superblock side in 8-pixel cells, S: 8, 16, 32 for code 0, 1, 2."
abbrev pub side_of : Frame → ℕ
side_of f = cond (eqb f.sb128 0) 8 (cond (eqb f.sb128 1) 16 32)

-- "Block side B: 16 if code is not 0 and the sample step is 2, else 8."
abbrev pub block_of : Frame → ℕ
block_of f = cond (not (eqb f.sb128 0) && eqb f.tmvp_sample_step 2) 16 8

-- "Edge: B for step 2, B/2 for step 1."
abbrev pub edge_of : Frame → ℕ
edge_of f = cond (eqb f.tmvp_sample_step 2) (block_of f) (block_of f / 2)

-- "Frame cells wide W and high H: (pixels + 7)/8, whole part."
abbrev pub wide_of : Frame → ℕ
wide_of f = (f.width + 7) / 8

abbrev pub high_of : Frame → ℕ
high_of f = (f.height + 7) / 8

-- "Stride: width raised to a multiple of 256, over 8."
abbrev pub stride_of : Frame → ℕ
stride_of f = (f.width + 255) / 256 * 256 / 8

-- the numbers of a call; in row mode the superblock row stands behind the three rows above it, in whole-frame mode at its own rows
unfoldable pub tile_of : Call → Geometry
tile_of c =
    record {
      side = side_of c.setup;
      block = block_of c.setup;
      edge = edge_of c.setup;
      step = c.setup.tmvp_sample_step;
      wide = wide_of c.setup;
      high = high_of c.setup;
      stride = stride_of c.setup;
      offset = cond c.whole_frame c.row_start 3 * stride_of c.setup;
      left = c.col_start;
      right = c.col_end;
      top = c.row_start;
      bottom = min c.row_end (high_of c.setup);
    }

-- ---- "A load does, in order: copy three rows above, in the tile's columns (row mode only), empty the tile, project each source,
-- then with TIP mode not 0 `tip_projection` and, if hole filling is on, `fill_holes` and `smoothen`;
-- with step 2 `fill_gap_traj` for slots in use, then `fill_gap_proj`."

module _ (t : Geometry) (c : Call) where
  unfoldable pub project_sources : Prog
  project_sources =
      each 0 c.setup.sources.n_mfmvs (λ n. project_source t c.traj c.setup.rp_ref c.planes (get_or c.setup.sources.mfmv n no_source))

  unfoldable pub tip_passes : Prog
  tip_passes = do
    tip_projection t c.setup.tip.delta
    when c.holes do
      fill_holes t c.setup.tip.delta
      smoothen t c.setup.tip.delta

  -- 01: "Trajectory gaps skipped with trajectories off: the Rust fills them."
  unfoldable pub gap_passes : Prog
  gap_passes = do
    each 0 c.setup.n_refs (fill_gap_traj t)
    fill_gap_proj t

  -- trajectories and maps are emptied where trajectories are on
  unfoldable pub load_tmvs : Prog
  load_tmvs = do
    when (not c.whole_frame) (copy_above t)
    empty_field t
    when c.traj (empty_trajs t)
    project_sources
    when (not (eqb c.setup.tip_frame_mode 0)) tip_passes
    when (ltb 1 t.step) gap_passes
