-- Which cells are the tile's; tiles with no common column have no common cell. Assumes nothing.
use Rattle.std.proofs.Common.{◌≡◌, ◌&&◌, true, ℕ, ◌+◌, ◌-◌, ◌*◌, ◌/◌, ◌%◌, ◌≤◌, ◌<◌, arith, leb-true, le-leb, lt-ltb, leb, ltb}
use Rattle.intops.proofs.Tests.{and_both, both_and}
use Rattle.store.specs.Store.{field_mvs, field_refs, trajs, maps}
use Rattle.tile.specs.Geometry.{Geometry}
use Rattle.tile.specs.Layout.{row_cells, field_at, traj_at, map_at}
use Rattle.tile.specs.Owner.{own_block, owns}
use Rattle.tile.specs.Sound.{Sound}
use Rattle.tile.proofs.Places.{sides, field_col, field_low, traj_col, traj_low, map_col, map_low, map_plane}

module _ (t : Geometry) where
  pub mine_of : (n : ℕ) → t.left / t.block + 1 ≤ n → n ≤ (t.right - 1) / t.block + 1 → own_block t n ≡ true
  unfolding own_block
  mine_of n p q = both_and (leb (t.left / t.block + 1) n) (leb n ((t.right - 1) / t.block + 1)) (le-leb _ _ p) (le-leb _ _ q)

  pub mine_bounds : (n : ℕ) → own_block t n ≡ true → (t.left / t.block + 1 ≤ n) × (n ≤ (t.right - 1) / t.block + 1)
  unfolding own_block
  mine_bounds n h =
      let b = and_both (leb (t.left / t.block + 1) n) (leb n ((t.right - 1) / t.block + 1)) h in
      (leb-true _ _ b.0, leb-true _ _ b.1)

module _ (t : Geometry) (k : Sound t) where
  -- the tile's own columns
  pub mine_in : (x : ℕ) → t.left ≤ x → x < t.right → own_block t (x / t.block + 1) ≡ true
  mine_in x p q =
      mine_of t (x / t.block + 1)
      (sides t k (λ B s. t.left / B + 1 ≤ x / B + 1) (omega arith) (omega arith) (omega arith) (omega arith))
      (sides t k (λ B s. x / B + 1 ≤ (t.right - 1) / B + 1) (omega arith) (omega arith) (omega arith) (omega arith))

  -- a column of the tile's blocks lies in the store's row
  pub mine_low : (x : ℕ) → own_block t (x / t.block + 1) ≡ true → x < t.stride
  mine_low x h =
      sides t k (λ B s. x / B + 1 ≤ (t.right - 1) / B + 1 → x < t.stride)
      (λ l. omega (arith, k.stride, k.wide, k.right, k.some)) (λ l. omega (arith, k.stride, k.wide, k.right, k.some))
      (λ l. omega (arith, k.stride, k.wide, k.right, k.some)) (λ l. omega (arith, k.stride, k.wide, k.right, k.some))
      (mine_bounds t (x / t.block + 1) h).1

  -- a field cell of column x, vector and byte
  pub own_field : (i x : ℕ) → i < t.offset + row_cells t → i % t.stride ≡ x → own_block t (x / t.block + 1) ≡ true → (owns t field_mvs i ≡ true) × (owns t field_refs i ≡ true)
  unfolding owns
  own_field i x l e h = let o : (ltb i (t.offset + row_cells t) && own_block t (i % t.stride / t.block + 1)) ≡ true = rw (lt-ltb i (t.offset + row_cells t) l, e) h in (o, o)

  pub own_cell : (y x : ℕ) → own_block t (x / t.block + 1) ≡ true → (owns t field_mvs (field_at t y x) ≡ true) × (owns t field_refs (field_at t y x) ≡ true)
  own_cell y x h = own_field (field_at t y x) x (field_low t k y x (mine_low x h)) (field_col t k y x (mine_low x h)) h

  pub own_traj : (n y x : ℕ) → n < 7 → own_block t (x / t.block + 1) ≡ true → owns t trajs (traj_at t n y x) ≡ true
  unfolding owns
  own_traj n y x l h = rw (lt-ltb (traj_at t n y x) (7 * row_cells t) (traj_low t k n y x l (mine_low x h)), traj_col t k n y x (mine_low x h)) h

  pub own_map : (j n y x : ℕ) → j < 3 → n < 7 → x < t.stride → own_block t (x / t.block + j) ≡ true → owns t maps (map_at t j n y x) ≡ true
  unfolding owns
  own_map j n y x p l b h = rw (lt-ltb (map_at t j n y x) (21 * row_cells t) (map_low t k j n y x p l b), map_col t k j n y x b, map_plane t k j n y x l b) h
