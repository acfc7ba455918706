-- The passes over the field: copy of the rows above, emptying, tip_projection, fill_holes, smoothen, fill_gap_proj. Assumes nothing.
use Rattle.std.specs.Prelude.{Bool, not, cond, ◌&&◌, ℕ, ◌+◌, ◌-◌, ◌*◌, min, ℤ, pos, negsuc, nat_abs}
use Rattle.levels.specs.declared.Mv.{Mv}
use Rattle.levels.specs.Vector.{empty}
use Rattle.mv.specs.declared.Sum.{Sum}
use Rattle.mv.specs.Sums.{is_empty, no_sum, added, smoothed_of, gap_of}
use Rattle.mv.specs.Projection.{projection_factor, scaled_vector}
use Rattle.store.specs.Store.{Kind, field_mvs, field_refs, byte_cell}
use Rattle.store.specs.Program.{Prog, read, write, test, snapshot, cell, when, each, each_by, ◌>>=◌, ◌>>◌}
use Rattle.tile.specs.Geometry.{Geometry}
use Rattle.tile.specs.Layout.{field_at}
use Rattle.tile.specs.Passes.{each_cell, each_block, each_sample, has_left, has_right, has_above, has_below}

-- a signed byte kept in an unsigned one (`tip_delta as u8`): 256 is added to a negative one
abbrev pub as_byte : ℤ → ℕ
as_byte (pos n) = n
as_byte (negsuc n) = 255 - n

-- mv_projection with the passes' bounds, ±2,047
abbrev pub projected : ℤ → ℤ → Mv → Mv
projected num den v = scaled_vector (projection_factor num den) (negsuc 2046) (pos 2047) v

-- a field cell with its reference byte
abbrev pub put : ℕ → Mv → ℕ → Prog
put i v r = do
  write field_mvs i v
  write field_refs i (byte_cell r)

-- a cell, where there is one
abbrev pub added_if : Bool → Mv → Sum → Sum
added_if b v s = cond b (added v s) s

-- a sampled neighbour, projected from its own distance to the distance ref_off; empty where there is none, or where it is empty
abbrev pub beside : Bool → ℕ → Mv → (Mv → Prog) → Prog
beside b i ref_off f = test b (read field_mvs i (λ v. read field_refs i (λ r. f (cond (is_empty v) empty (projected ref_off.y r.y v))))) (f empty)

module _ (t : Geometry) where
  -- "copy three rows above, in the tile's columns (row mode only)": the store still holds the superblock row that was loaded before; its rows S-3 to S-1 go to the three rows in front.
  -- So always, also where the tile begins at row 0, and after a superblock row that the frame's end cut short
  unfoldable pub copy_above : Prog
  copy_above = each 0 3 (λ r. each t.left t.right (λ x. do
    v ← cell field_mvs (field_at t (t.side - 3 + r) x)
    b ← cell field_refs (field_at t (t.side - 3 + r) x)
    put (r * t.stride + x) v (nat_abs b.y)))

  -- "Emptying a field cell leaves its reference byte."
  unfoldable pub empty_field : Prog
  empty_field = each_cell t (λ y x. write field_mvs (field_at t y x) empty)

  -- a cell that is not empty is projected from the distance in its reference byte to the TIP distance, which becomes its byte
  unfoldable pub project_tip : ℤ → ℕ → ℕ → Prog
  project_tip delta y x = do
    v ← cell field_mvs (field_at t y x)
    when (not (is_empty v)) do
      b ← cell field_refs (field_at t y x)
      put (field_at t y x) (projected delta b.y v) (as_byte delta)

  unfoldable pub tip_projection : ℤ → Prog
  tip_projection delta = each_sample t (λ sx xend y x. project_tip delta y x)

  -- v goes into a cell that is empty
  unfoldable pub fill_hole : ℤ → Mv → ℕ → ℕ → Prog
  fill_hole delta v y x = do
    u ← cell field_mvs (field_at t y x)
    when (is_empty u) (put (field_at t y x) v (as_byte delta))

  -- a cell that is not empty fills its empty neighbours of the block: left, right, above, below
  unfoldable pub fill_around : ℤ → ℕ → ℕ → ℕ → ℕ → Prog
  fill_around delta sx xend y x = do
    v ← cell field_mvs (field_at t y x)
    when (not (is_empty v)) do
      when (has_left t sx x) (fill_hole delta v y (x - t.step))
      when (has_right t xend x) (fill_hole delta v y (x + t.step))
      when (has_above t y) (fill_hole delta v (y - t.step) x)
      when (has_below t y) (fill_hole delta v (y + t.step) x)

  -- 01 "Hole filling ..: it works in place": what one cell has filled, the next may hand on
  unfoldable pub fill_holes : ℤ → Prog
  fill_holes delta = each_sample t (fill_around delta)

  -- a cell and its neighbours of the block, as they were
  unfoldable pub around : (ℕ → Mv) → ℕ → ℕ → ℕ → ℕ → Sum
  around was sx xend y x =
      added_if (has_below t y) (was (field_at t (y + t.step) x))
      (added_if (has_above t y) (was (field_at t (y - t.step) x))
      (added_if (has_right t xend x) (was (field_at t y (x + t.step)))
      (added_if (has_left t sx x) (was (field_at t y (x - t.step)))
      (added (was (field_at t y x)) no_sum))))

  -- a sampled cell becomes the mean; the byte is written in empty cells too
  unfoldable pub smooth_cell : ℤ → (Kind → ℕ → Mv) → ℕ → ℕ → ℕ → ℕ → Prog
  smooth_cell delta was sx xend y x = put (field_at t y x) (smoothed_of (around (was field_mvs) sx xend y x)) (as_byte delta)

  -- the block from row sy, column sx on
  unfoldable pub smooth_block : ℤ → ℕ → ℕ → ℕ → (Kind → ℕ → Mv) → Prog
  smooth_block delta sx xend sy was =
      each_by t.step sy (min t.bottom (sy + t.block)) (λ y. each_by t.step sx xend (smooth_cell delta was sx xend y))

  -- 01 "Smoothing ..: it reads the originals, in the block only"
  unfoldable pub smoothen : ℤ → Prog
  smoothen delta = each_block t (λ sx xend. each_by t.block t.top t.bottom (λ sy. snapshot (smooth_block delta sx xend sy)))

  -- (y, x+1), (y+1, x) and (y+1, x+1) get the mean of the sampled cells around them: v at (y, x), a at (y, x+2), b at (y+2, x), c at (y+2, x+2); for the first v and a, for the second v and b, for the third all four
  unfoldable pub put_gaps_proj : ℕ → ℕ → Mv → ℕ → Mv → Mv → Mv → Prog
  put_gaps_proj y x v r a b c = do
    put (field_at t y (x + 1)) (gap_of (added a (added v no_sum))) r
    put (field_at t (y + 1) x) (gap_of (added b (added v no_sum))) r
    put (field_at t (y + 1) (x + 1)) (gap_of (added c (added b (added a (added v no_sum))))) r

  -- only sampled cells are read; written are cells between them and, where W or H is odd, column W and row H just past the frame
  unfoldable pub gap_proj : ℕ → ℕ → ℕ → ℕ → Prog
  gap_proj sx xend y x = do
    v ← cell field_mvs (field_at t y x)
    when (not (is_empty v)) do
      ref_off ← cell field_refs (field_at t y x)
      a ← beside (has_right t xend x) (field_at t y (x + 2)) ref_off
      b ← beside (has_below t y) (field_at t (y + 2) x) ref_off
      c ← beside (has_right t xend x && has_below t y) (field_at t (y + 2) (x + 2)) ref_off
      put_gaps_proj y x v (nat_abs ref_off.y) a b c

  unfoldable pub fill_gap_proj : Prog
  fill_gap_proj = each_sample t gap_proj
