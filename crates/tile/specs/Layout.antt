-- Where a cell stands in the store, and how far a vector moves it (01 "Setup record", "Store"). Assumes nothing.
use Rattle.std.specs.Prelude.{Bool, ◌&&◌, ℕ, ◌+◌, ◌-◌, ◌*◌, ◌/◌, ◌%◌, min, leb, ltb, ℤ, pos, nat_abs, ◌+ℤ◌}
use Rattle.std.specs.Int.Signed.{non_neg}
use Rattle.intops.specs.Choice.{with_sign}
use Rattle.tile.specs.Geometry.{Geometry}

module _ (t : Geometry) where
  -- the cells of a superblock row of the store, S × stride
  unfoldable pub row_cells : ℕ
  row_cells = t.side * t.stride

  -- the place of row y, column x in it: rows count from the superblock row's first
  unfoldable pub place : ℕ → ℕ → ℕ
  place y x = y % t.side * t.stride + x

  -- a field cell
  unfoldable pub field_at : ℕ → ℕ → ℕ
  field_at y x = t.offset + place y x

  -- a trajectory of slot n: slot, row, column
  unfoldable pub traj_at : ℕ → ℕ → ℕ → ℕ
  traj_at n y x = n * row_cells + place y x

  -- a map cell of slot n in plane k, 0 to 2 for -1, 0 and 1: plane, slot, row, column
  unfoldable pub map_at : ℕ → ℕ → ℕ → ℕ → ℕ
  map_at k n y x = (k * 7 + n) * row_cells + place y x

  -- down to a sampled row or column (the sample step mask)
  unfoldable pub on_step : ℕ → ℕ
  on_step x = x / t.step * t.step

  -- where the block begins
  unfoldable pub block_start : ℕ → ℕ
  block_start x = x / t.block * t.block

  -- column b lies in the window of column a's block: the block, the edge on both sides, cut at the frame (x_proj_start .. x_proj_end)
  unfoldable pub near_col : ℕ → ℕ → Bool
  near_col a b = leb (block_start a - t.edge) b && ltb b (min (block_start a + t.block + t.edge) t.wide)

  -- row b lies in row a's block, cut at the frame (y_proj_start .. y_proj_end). load_tmvs cuts at the tile's end instead, which is the frame's end or a block's
  unfoldable pub same_rows : ℕ → ℕ → Bool
  same_rows a b = leb (block_start a) b && ltb b (min (block_start a + t.block) t.high)

-- a vector is in eighths of a pixel, a cell has 8 pixels: the whole part of a 64th, towards zero (`apply_sign(v.abs() >> 6, v)`)
unfoldable pub cells_of : ℤ → ℤ
cells_of z = with_sign z (nat_abs z / 64)

-- there is a row or column d cells on from x ..
abbrev pub there : ℕ → ℤ → Bool
there x d = non_neg (pos x +ℤ d)

-- .. and this is its number
abbrev pub moved : ℕ → ℤ → ℕ
moved x d = nat_abs (pos x +ℤ d)
