-- The loops that the passes over a tile share. Assumes nothing.
use Rattle.std.specs.Prelude.{Bool, ℕ, ◌+◌, min, leb, ltb}
use Rattle.store.specs.Program.{Prog, each, each_by}
use Rattle.tile.specs.Geometry.{Geometry}
use Rattle.tile.specs.Layout.{block_start}

module _ (t : Geometry) where
  -- each row and column of the tile
  abbrev pub each_cell : (ℕ → ℕ → Prog) → Prog
  each_cell f = each t.top t.bottom (λ y. each t.left t.right (λ x. f y x))

  -- each block of the tile's columns: its first column, and its end, which the tile's end cuts (sx, xend)
  abbrev pub each_block : (ℕ → ℕ → Prog) → Prog
  each_block f = each_by t.block t.left t.right (λ sx. f sx (min t.right (sx + t.block)))

  -- each sampled row and column, block by block of the columns
  abbrev pub each_sample : (ℕ → ℕ → ℕ → ℕ → Prog) → Prog
  each_sample f = each_block (λ sx xend. each_by t.step t.top t.bottom (λ y. each_by t.step sx xend (λ x. f sx xend y x)))

  -- whether the block has another sampled cell to the left, to the right, above, below
  abbrev pub has_left : ℕ → ℕ → Bool
  has_left sx x = leb (sx + t.step) x

  abbrev pub has_right : ℕ → ℕ → Bool
  has_right xend x = ltb (x + t.step) xend

  abbrev pub has_above : ℕ → Bool
  has_above y = leb (block_start t y + t.step) y

  abbrev pub has_below : ℕ → Bool
  has_below y = ltb (y + t.step) (min (block_start t y + t.block) t.bottom)
