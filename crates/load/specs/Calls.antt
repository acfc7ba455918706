-- The calls: tests 9 to 12 (01 "Why a tank is turned back") and the store after a call. Assumes nothing.
use Rattle.std.specs.Prelude.{Bool, false, not, cond, ◌&&◌, ◌||◌, ℕ, ◌+◌, ◌*◌, ◌/◌, ◌%◌, eqb, leb, ltb, negsuc, length, get_or}
use Rattle.intops.specs.Choice.{eq_z}
use Rattle.frame.specs.declared.Frame.{Frame}
use Rattle.frame.specs.Frame.{no_source, bad_size}
use Rattle.store.specs.Store.{Store, trajs, rd}
use Rattle.store.specs.Program.{run, every_cell}
use Rattle.tile.specs.Layout.{row_cells}
use Rattle.tile.specs.Owner.{owns}
use Rattle.traj.specs.Traj.{traj_in_range}
use Rattle.project.specs.Tested.{all_below, source_in_range, row_fine}
use Rattle.load.specs.Load.{Call, side_of, wide_of, high_of, stride_of, tile_of, load_tmvs}

-- ---- 9: "setup out of range"

-- "frame size, superblock code, step and slot count as refusals 4 to 7; sources 0..4"; of the sources those that the record counts
unfoldable pub setup_in_range : Frame → Bool
setup_in_range f =
    leb f.n_refs 7 && leb f.sb128 2 && not (eqb f.tmvp_sample_step 0) && leb f.tmvp_sample_step 2
    && not (bad_size f.width) && not (bad_size f.height)
    && leb f.sources.n_mfmvs 4 && all_below f.sources.n_mfmvs (λ n. source_in_range (get_or f.sources.mfmv n no_source))

-- ---- 10: "Tile: columns 0 ≤ start < end ≤ W, start a multiple of S, end a multiple of S or W.
-- Rows: start a multiple of S below H, end = start + S, or H ≤ end ≤ start + S."
unfoldable pub tile_fits : Call → Bool
tile_fits c =
    let S = side_of c.setup in let W = wide_of c.setup in let H = high_of c.setup in
    ltb c.col_start c.col_end && leb c.col_end W && eqb (c.col_start % S) 0 && (eqb (c.col_end % S) 0 || eqb c.col_end W)
    && eqb (c.row_start % S) 0 && ltb c.row_start H
    && (eqb c.row_end (c.row_start + S) || (leb H c.row_end && leb c.row_end (c.row_start + S)))

-- ---- 11: "planes or store shorter than stated"

-- "(S+3) × stride cells in row mode, H raised to a multiple of 32, times stride, in whole-frame mode"
abbrev pub field_cells : Call → ℕ
field_cells c = cond c.whole_frame ((high_of c.setup + 31) / 32 * 32) (side_of c.setup + 3) * stride_of c.setup

-- "Trajectories: 7 × S × stride vectors. Maps: 3 × 7 × S × stride pairs"; seven planes of H × stride blocks of six bytes, whichever are present
unfoldable pub long_enough : Call → Store → Bool
long_enough c s =
    let P = row_cells (tile_of c) in
    leb (6 * (7 * (high_of c.setup * stride_of c.setup))) (length c.planes)
    && leb (field_cells c) (length s.field_y) && leb (field_cells c) (length s.field_x) && leb (field_cells c) (length s.field_ref)
    && leb (7 * P) (length s.traj_y) && leb (7 * P) (length s.traj_x)
    && leb (21 * P) (length s.map_y) && leb (21 * P) (length s.map_x)

-- ---- 12

-- a source that is skipped, or whose plane is not present, is not looked at
unfoldable pub source_fine : Call → ℕ → Bool
source_fine c n =
    let s = get_or c.setup.sources.mfmv n no_source in
    eq_z s.ref2cur (negsuc 31) || not (get_or c.setup.rp_ref s.reference.0 false) || row_fine (tile_of c) c.planes s

-- "any of the 7 × S × stride trajectories"
unfoldable pub trajs_in_range : Call → Store → Bool
trajs_in_range c s = all_below (7 * row_cells (tile_of c)) (λ i. traj_in_range (rd s trajs i))

unfoldable pub contents_fine : Call → Store → Bool
contents_fine c s = all_below c.setup.sources.n_mfmvs (source_fine c) && trajs_in_range c s

-- ---- the answer, and the store

-- 0, or the number of the first test that turns the call back
unfoldable pub answer : Call → Store → ℕ
answer c s = cond (setup_in_range c.setup) (cond (tile_fits c) (cond (long_enough c s) (cond (contents_fine c s) 0 12) 11) 10) 9

-- the store that an accepted call leaves: the load, which takes another column's cell as empty and leaves it
unfoldable pub load : Call → Store → Store
load c s = run (owns (tile_of c)) (load_tmvs (tile_of c) c) s

-- the same load without regard to whose a cell is
unfoldable pub load_unguarded : Call → Store → Store
load_unguarded c s = run every_cell (load_tmvs (tile_of c) c) s
