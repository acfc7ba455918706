-- Whose cell it is (01 "Store": "the cell belongs to its column"). 01 leaves open which column a map cell has: docs/DECISIONS.md. Assumes nothing.
use Rattle.std.specs.Prelude.{Bool, ◌&&◌, ℕ, ◌+◌, ◌-◌, ◌*◌, ◌/◌, ◌%◌, leb, ltb}
use Rattle.store.specs.Store.{Kind, field_mvs, field_refs, trajs, maps}
use Rattle.tile.specs.Geometry.{Geometry}
use Rattle.tile.specs.Layout.{row_cells}

-- Columns are owned block by block. Blocks count from 1 here, so that the one before the first has the number 0.
module _ (t : Geometry) where
  -- block n is one of the tile's
  unfoldable pub own_block : ℕ → Bool
  own_block n = leb (t.left / t.block + 1) n && leb n ((t.right - 1) / t.block + 1)

  -- the block of cell i's column
  abbrev pub block_number : ℕ → ℕ
  block_number i = i % t.stride / t.block + 1

  -- A cell belongs to the block of its column. A map cell of plane k, 0 to 2, tells of a trajectory k - 1 blocks to the right, and belongs to that block.
  -- What lies behind the superblock row of the field, and behind the trajectories and maps that 01 states, is nobody's
  unfoldable pub owns : Kind → ℕ → Bool
  owns field_mvs i = ltb i (t.offset + row_cells t) && own_block (block_number i)
  owns field_refs i = ltb i (t.offset + row_cells t) && own_block (block_number i)
  owns trajs i = ltb i (7 * row_cells t) && own_block (block_number i)
  owns maps i = ltb i (21 * row_cells t) && own_block (i % t.stride / t.block + i / (7 * row_cells t))
