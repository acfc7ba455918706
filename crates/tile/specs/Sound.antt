-- What holds of the layout, the columns and the rows of an accepted call. For contracts and proofs. Assumes nothing.
use Rattle.std.specs.Prelude.{◌≡◌, true, ◌||◌, eqb, List, ℕ, ◌+◌, ◌*◌, ◌/◌, ◌%◌, ◌≤◌, ◌<◌, min, ℤ, length}
use Rattle.tile.specs.Geometry.{Geometry}
use Rattle.tile.specs.Layout.{row_cells}
use Rattle.tile.specs.Owner.{own_block}

pub record Sound (t : Geometry) : Type 0 where
  pub side : 0 < t.side
  pub side_kind : (eqb t.side 8 || (eqb t.side 16 || eqb t.side 32)) ≡ true
  pub block : (eqb t.block 8 || eqb t.block 16) ≡ true
  pub step : (eqb t.step 1 || eqb t.step 2) ≡ true
  -- at most 8 × 8 sampled cells
  pub few : t.block ≤ 8 * t.step
  pub edge : t.edge ≤ t.block
  pub edge_on_step : t.edge % t.step ≡ 0
  pub start : t.left % t.block ≡ 0
  pub some : t.left < t.right
  pub right : t.right ≤ t.wide
  pub wide : t.wide ≤ t.stride
  pub stride : t.stride % 16 ≡ 0
  pub offset : t.offset % t.stride ≡ 0
  -- the rows are of one superblock row
  pub top_on_side : t.top % t.side ≡ 0
  pub top_on_block : t.top % t.block ≡ 0
  pub side_on_block : t.side % t.block ≡ 0
  pub rows : t.top < t.bottom
  pub bottom : t.bottom ≤ t.top + t.side
  pub frame_end : t.bottom ≤ t.high
  -- numbers are small: places in the store have 32 bits
  pub side_low : t.side ≤ 32
  pub block_low : t.block ≤ 16
  pub step_low : t.step ≤ 2
  pub stride_low : t.stride ≤ 8192
  pub high_low : t.high ≤ 8192
  pub offset_low : t.offset ≤ 67108864

-- a cell of the tile
pub record InTile (t : Geometry) (y x : ℕ) : Type 0 where
  pub top : t.top ≤ y
  pub bottom : y < t.bottom
  pub left : t.left ≤ x
  pub right : x < t.right

-- a sampled cell of the block whose columns are sx up to xend
pub record Sample (t : Geometry) (sx xend y x : ℕ) : Type 0 where
  pub cell : InTile t y x
  pub left : t.left ≤ sx
  pub from : sx ≤ x
  pub to : x < xend
  pub end : xend ≡ min t.right (sx + t.block)
  pub row : y % t.step ≡ 0
  pub col : x % t.step ≡ 0

-- the cells to the right, below and between are the tile's too, with step 2
pub record Gaps (t : Geometry) (y x : ℕ) : Type 0 where
  pub top : t.top ≤ y
  pub below : y + 1 < t.top + t.side
  pub here : own_block t (x / t.block + 1) ≡ true
  pub right : own_block t ((x + 1) / t.block + 1) ≡ true

-- the field's lists reach to the end of the superblock row
pub record FieldHeld (t : Geometry) (fy fx : List ℤ) (fr : List ℕ) : Type 0 where
  pub y : t.offset + row_cells t ≤ length fy
  pub x : t.offset + row_cells t ≤ length fx
  pub ref : t.offset + row_cells t ≤ length fr

-- the trajectories' lists hold seven superblock rows, one for each slot
pub record TrajHeld (t : Geometry) (ty tx : List ℤ) : Type 0 where
  pub y : 7 * row_cells t ≤ length ty
  pub x : 7 * row_cells t ≤ length tx

-- the maps' lists hold seven in each of three planes
pub record MapHeld (t : Geometry) (my mx : List ℤ) : Type 0 where
  pub y : 21 * row_cells t ≤ length my
  pub x : 21 * row_cells t ≤ length mx
