-- The passes over trajectories and maps: emptying, check_traj_intersect, fill_gap_traj. Assumes nothing.
--
-- A trajectory of slot n at (y, x): the vector from that cell of this frame to slot n's frame.
-- A map cell of slot n at (y, x): the offset from (y, x) back to the cell whose trajectory of slot n ends there.
-- It stands in plane 0, 1 or 2 where that cell lies one block to the left, in the same block, one block to the right.
use Rattle.std.specs.Prelude.{Bool, not, ◌&&◌, ◌||◌, ℕ, ◌+◌, ◌-◌, ◌*◌, ◌/◌, min, eqb, leb, ltb, pos, negsuc, neg_ℤ, nat_abs, ◌+ℤ◌, ◌-ℤ◌}
use Rattle.intops.specs.Choice.{eq_z, clip_z}
use Rattle.levels.specs.declared.Mv.{Mv}
use Rattle.levels.specs.Vector.{empty}
use Rattle.mv.specs.Sums.{is_empty, no_sum, added, gap_of}
use Rattle.store.specs.Store.{trajs, maps, vec, no_map}
use Rattle.store.specs.Program.{Prog, write, cell, cell_if, when, each, ◌>>=◌, ◌>>◌}
use Rattle.tile.specs.Geometry.{Geometry}
use Rattle.tile.specs.Layout.{traj_at, map_at, on_step, near_col, same_rows, cells_of, there, moved}
use Rattle.tile.specs.Owner.{own_block}
use Rattle.tile.specs.Passes.{each_cell, each_sample, has_right, has_below}

-- both components clipped to ±bound
abbrev pub clipped : ℕ → Mv → Mv
clipped bound v = vec (clip_z (neg_ℤ (pos bound)) (pos bound) v.y) (clip_z (neg_ℤ (pos bound)) (pos bound) v.x)

-- the sum of two vectors, the vector turned round
abbrev pub sum_of : Mv → Mv → Mv
sum_of v w = vec (v.y +ℤ w.y) (v.x +ℤ w.x)

abbrev pub turned : Mv → Mv
turned v = vec (neg_ℤ v.y) (neg_ℤ v.x)

-- is a map cell empty: (-128, -128)?
abbrev pub is_no_map : Mv → Bool
is_no_map m = eq_z m.y (negsuc 127) && eq_z m.x (negsuc 127)

-- a trajectory that a load may be lent (01, refusal 12): "(empty, 0)" or "within ±65,535"
unfoldable pub traj_in_range : Mv → Bool
traj_in_range v = (is_empty v && eq_z v.x (pos 0)) || (leb (nat_abs v.y) 65535 && leb (nat_abs v.x) 65535)

module _ (t : Geometry) where
  -- the trajectories of slot n
  unfoldable pub empty_traj : ℕ → Prog
  empty_traj n = each_cell t (λ y x. write trajs (traj_at t n y x) empty)

  -- the map of slot n in plane k, 0 to 2: the columns of the tile's blocks, moved k - 1 blocks to the left, cut at the frame
  unfoldable pub empty_map : ℕ → ℕ → Prog
  empty_map n k =
      each t.top t.bottom (λ y.
      each (t.left + t.block - k * t.block)
      (min t.wide ((t.right + (t.block - 1)) / t.block * t.block + t.block - k * t.block))
      (λ x. write maps (map_at t k n y x) no_map))

  unfoldable pub empty_trajs : Prog
  empty_trajs = each 0 7 (λ n. do
    empty_traj n
    each 0 3 (empty_map n))

  -- the vector v from (y, x) ends in the window of (y₁, x₁)'s block
  unfoldable pub ends_in : ℕ → ℕ → ℕ → ℕ → Mv → Bool
  ends_in y₁ x₁ y x v =
      there y (cells_of v.y) && there x (cells_of v.x)
      && near_col t x₁ (moved x (cells_of v.x)) && same_rows t y₁ (moved y (cells_of v.y))

  -- then its end, at a sampled place, is entered in the map of slot n for the trajectory at (y₁, x₁)
  unfoldable pub enter_end : ℕ → ℕ → ℕ → ℕ → ℕ → Mv → Prog
  enter_end n y₁ x₁ y x v =
      let y₂ = on_step t (moved y (cells_of v.y)) in
      let x₂ = on_step t (moved x (cells_of v.x)) in
      when (ends_in y₁ x₁ y x v)
      (write maps (map_at t (x₁ / t.block + 1 - x₂ / t.block) n y₂ x₂) (vec (pos y₁ -ℤ pos y₂) (pos x₁ -ℤ pos x₂)))

  -- where slot b has no trajectory at (y₁, x₁), it gets slot a's there with mv added, clipped to ±bound, and its end is entered in slot b's map
  unfoldable pub extend : ℕ → ℕ → ℕ → ℕ → ℕ → Mv → Prog
  extend bound a b y₁ x₁ mv = do
    u ← cell trajs (traj_at t b y₁ x₁)
    when (is_empty u) do
      v ← cell trajs (traj_at t a y₁ x₁)
      write trajs (traj_at t b y₁ x₁) (clipped bound (sum_of v mv))
      enter_end b y₁ x₁ y₁ x₁ (clipped bound (sum_of v mv))

  -- the map cell m of plane k at (y, x) leads k - 1 blocks on, to a place whose block has (y, x) and (y₀, x₀) in its window
  unfoldable pub leads : Mv → ℕ → ℕ → ℕ → ℕ → ℕ → Bool
  leads m k y x y₀ x₀ =
      not (is_no_map m) && there y m.y && there x m.x && eqb (moved x m.x / t.block + 1) (x / t.block + k)
      && near_col t (moved x m.x) x && near_col t (moved x m.x) x₀
      && same_rows t (moved y m.y) y && same_rows t (moved y m.y) y₀

  -- slot a's trajectory that plane k of its map has at (y, x) is extended to slot b; only planes that lead into the tile's blocks are looked at (min_k .. max_k)
  unfoldable pub follow : ℕ → ℕ → ℕ → ℕ → ℕ → ℕ → ℕ → Mv → ℕ → Prog
  follow bound a b y x y₀ x₀ mv k =
      when (own_block t (x / t.block + k)) do
        m ← cell maps (map_at t k a y x)
        when (leads m k y x y₀ x₀) (extend bound a b (moved y m.y) (moved x m.x) mv)

  -- mv from (y, x) ends in the frame
  unfoldable pub in_frame : ℕ → ℕ → Mv → Bool
  in_frame y x mv =
      there y (cells_of mv.y) && there x (cells_of mv.x)
      && ltb (moved y (cells_of mv.y)) t.high && ltb (moved x (cells_of mv.x)) t.wide

  -- the first half of check_traj_intersect: slot a's trajectories through (y, x) go on by mv to slot b; the clip is ±2,047
  unfoldable pub first_half : ℕ → ℕ → ℕ → ℕ → Mv → Prog
  first_half a b y x mv = each 0 3 (follow 2047 a b y x y x mv)

  -- the second half: slot b's trajectories through the place where mv ends go back by mv to slot a; the clip is ±65,535.
  -- That place may lie in another superblock row. Then the map cell read is an older load's, and `leads` turns it away, as (y, x) and the place share no block
  unfoldable pub second_half : ℕ → ℕ → ℕ → ℕ → Mv → Prog
  second_half a b y x mv =
      let y₁ = on_step t (moved y (cells_of mv.y)) in
      let x₁ = on_step t (moved x (cells_of mv.x)) in
      when (in_frame y x mv) (each 0 3 (follow 65535 b a y₁ x₁ y x (turned mv)))

  unfoldable pub check_traj_intersect : ℕ → ℕ → ℕ → ℕ → Mv → Prog
  check_traj_intersect a b y x mv = do
    first_half a b y x mv
    second_half a b y x mv

  -- (y, x+1), (y+1, x) and (y+1, x+1) get the mean of the sampled cells around them, as in the field: v at (y, x), a at (y, x+2), b at (y+2, x), c at (y+2, x+2)
  unfoldable pub put_gaps_traj : ℕ → ℕ → ℕ → Mv → Mv → Mv → Mv → Prog
  put_gaps_traj n y x v a b c = do
    write trajs (traj_at t n y (x + 1)) (gap_of (added a (added v no_sum)))
    write trajs (traj_at t n (y + 1) x) (gap_of (added b (added v no_sum)))
    write trajs (traj_at t n (y + 1) (x + 1)) (gap_of (added c (added b (added a (added v no_sum)))))

  -- only sampled cells are read; written are cells between them and, where W or H is odd, column W and row H just past the frame
  unfoldable pub gap_traj : ℕ → ℕ → ℕ → ℕ → ℕ → Prog
  gap_traj n sx xend y x = do
    v ← cell trajs (traj_at t n y x)
    when (not (is_empty v)) do
      a ← cell_if (has_right t xend x) trajs (traj_at t n y (x + 2))
      b ← cell_if (has_below t y) trajs (traj_at t n (y + 2) x)
      c ← cell_if (has_right t xend x && has_below t y) trajs (traj_at t n (y + 2) (x + 2))
      put_gaps_traj n y x v a b c

  unfoldable pub fill_gap_traj : ℕ → Prog
  fill_gap_traj n = each_sample t (gap_traj n)
