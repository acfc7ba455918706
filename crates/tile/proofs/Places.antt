-- Where a cell stands, taken apart again: its column, its plane; blocks and sampled columns. Assumes nothing.
use Rattle.std.proofs.Common.{◌≡◌, sym, ap, ◌∙◌, ◌⊎◌, inl, inr, refl, Bool, true, false, ◌||◌, eqb, eqb-true, ℕ, ◌+◌, ◌-◌, ◌*◌, ◌/◌, ◌%◌, ◌≤◌, ◌<◌, min, add-mul, mul_assoc, mul-le-mul, mod-lt, mod-eq_of_lt, div-add-mod', arith, leb-true, ltb-true, leb, ltb}
use Rattle.std.proofs.Math.Arith.{digits_lt, digits_div, digits_mod}
use Rattle.intops.proofs.Tests.{and_both}
use Rattle.tile.specs.Geometry.{Geometry}
use Rattle.tile.specs.Layout.{row_cells, place, field_at, traj_at, map_at, on_step, block_start, near_col, same_rows}
use Rattle.tile.specs.Sound.{Sound}

-- two tests joined, as the two equations
either : (n a b : ℕ) → (eqb n a || eqb n b) ≡ true → (n ≡ a) ⊎ (n ≡ b)
either n a b h = go (eqb n a) refl
  where
    go : (c : Bool) → eqb n a ≡ c → (n ≡ a) ⊎ (n ≡ b)
    go true e = inl (eqb-true n a e)
    go false e = inr (eqb-true n b (rw e at h))

module _ (t : Geometry) (k : Sound t) where
  -- the sides and the steps that there are
  pub side_kind : (t.side ≡ 8) ⊎ ((t.side ≡ 16) ⊎ (t.side ≡ 32))
  side_kind = go (eqb t.side 8) refl
    where
      go : (c : Bool) → eqb t.side 8 ≡ c → (t.side ≡ 8) ⊎ ((t.side ≡ 16) ⊎ (t.side ≡ 32))
      go true e = inl (eqb-true t.side 8 e)
      go false e = inr (either t.side 16 32 (rw e at k.side_kind))

  pub block_kind : (t.block ≡ 8) ⊎ (t.block ≡ 16)
  block_kind = either t.block 8 16 k.block

  pub step_kind : (t.step ≡ 1) ⊎ (t.step ≡ 2)
  step_kind = either t.step 1 2 k.step

  -- a fact of the block's side and the step is one of four
  pub sides : (P : ℕ → ℕ → Type 0) → P 8 1 → P 8 2 → P 16 1 → P 16 2 → P t.block t.step
  sides P a b c d = go block_kind step_kind
    where
      go : (t.block ≡ 8) ⊎ (t.block ≡ 16) → (t.step ≡ 1) ⊎ (t.step ≡ 2) → P t.block t.step
      go (inl p) (inl q) = rw (p, q) a
      go (inl p) (inr q) = rw (p, q) b
      go (inr p) (inl q) = rw (p, q) c
      go (inr p) (inr q) = rw (p, q) d

  pub block_some : 0 < t.block
  block_some = sides (λ B s. 0 < B) (omega arith) (omega arith) (omega arith) (omega arith)

  pub step_some : 0 < t.step
  step_some = sides (λ B s. 0 < s) (omega arith) (omega arith) (omega arith) (omega arith)

  pub small : (0 < t.step) × (t.step ≤ 2) × (0 < t.block) × (t.block ≤ 16)
  small = sides (λ B s. (0 < s) × (s ≤ 2) × (0 < B) × (B ≤ 16)) (omega arith) (omega arith) (omega arith) (omega arith)

  -- a block that is not of 8 is of 16
  pub block_else : (t.block ≡ 8 → ⊥) → t.block ≡ 16
  block_else n = go block_kind
    where
      go : (t.block ≡ 8) ⊎ (t.block ≡ 16) → t.block ≡ 16
      go (inl p) = absurd (n p)
      go (inr p) = p

  pub step_else : (t.step ≡ 1 → ⊥) → t.step ≡ 2
  step_else n = go step_kind
    where
      go : (t.step ≡ 1) ⊎ (t.step ≡ 2) → t.step ≡ 2
      go (inl p) = absurd (n p)
      go (inr p) = p

  -- a superblock that is not of 8 or 16 is of 32
  pub side_else : (t.side ≡ 8 → ⊥) → (t.side ≡ 16 → ⊥) → t.side ≡ 32
  side_else n m = go side_kind
    where
      go : (t.side ≡ 8) ⊎ ((t.side ≡ 16) ⊎ (t.side ≡ 32)) → t.side ≡ 32
      go (inl p) = absurd (n p)
      go (inr (inl p)) = absurd (m p)
      go (inr (inr p)) = p

  -- a block begins at a sampled row and column
  pub block_on_step : (n : ℕ) → n % t.block ≡ 0 → n % t.step ≡ 0
  block_on_step n = sides (λ B s. n % B ≡ 0 → n % s ≡ 0) (λ h. omega arith) (λ h. omega arith) (λ h. omega arith) (λ h. omega arith)

  -- the block of a row of the tile begins in the tile
  pub block_top : (y : ℕ) → t.top ≤ y → (t.top ≤ block_start t y) × (block_start t y ≤ y)
  unfolding block_start
  block_top y h =
      sides (λ B s. t.top % B ≡ 0 → (t.top ≤ y / B * B) × (y / B * B ≤ y)) (λ q. (omega arith, omega arith)) (λ q. (omega arith, omega arith)) (λ q. (omega arith, omega arith))
      (λ q. (omega arith, omega arith)) k.top_on_block

  pub start_low : (y : ℕ) → block_start t y ≤ y
  unfolding block_start
  start_low y = sides (λ B s. y / B * B ≤ y) (omega arith) (omega arith) (omega arith) (omega arith)

  pub row_low : (y : ℕ) → y % t.side < t.side
  row_low y = mod-lt y k.side

  -- the column of a cell: its number in a row of the store
  pub field_col : (y x : ℕ) → x < t.stride → field_at t y x % t.stride ≡ x
  unfolding field_at place
  field_col y x h =
      let o : t.offset ≡ t.offset / t.stride * t.stride = sym (div-add-mod' t.offset t.stride) ∙ omega (arith, k.offset) in
      let e : t.offset + (y % t.side * t.stride + x) ≡ (t.offset / t.stride + y % t.side) * t.stride + x =
      omega (arith, o, add-mul (t.offset / t.stride) (y % t.side) t.stride) in
      ap (λ (i : ℕ). i % t.stride) e ∙ digits_mod (t.offset / t.stride + y % t.side) h

  pub place_low : (y x : ℕ) → x < t.stride → place t y x < row_cells t
  unfolding place row_cells
  place_low y x h = digits_lt (row_low y) h

  -- a field cell is of the superblock row, or before it
  pub field_low : (y x : ℕ) → x < t.stride → field_at t y x < t.offset + row_cells t
  unfolding field_at
  field_low y x h = omega (arith, place_low y x h)

  -- a row of the superblock row, counted from the tile's first
  pub row_of : (y : ℕ) → t.top ≤ y → y < t.top + t.side → y % t.side ≡ y - t.top
  row_of y p q =
      let o : t.top ≡ t.top / t.side * t.side = sym (div-add-mod' t.top t.side) ∙ omega (arith, k.top_on_side) in
      let l : y - t.top < t.side = omega arith in
      let e : y ≡ t.top / t.side * t.side + (y - t.top) = omega arith in
      ap (λ (i : ℕ). i % t.side) e ∙ digits_mod (t.top / t.side) l

  -- a field cell as code finds it
  pub field_is : (y x : ℕ) → t.top ≤ y → y < t.top + t.side → t.offset + ((y - t.top) * t.stride + x) ≡ field_at t y x
  unfolding field_at place
  field_is y x p q = rw (row_of y p q)

  -- a cell of its last three rows
  pub side_some : 8 ≤ t.side
  side_some = sides (λ B s. t.side % B ≡ 0 → 8 ≤ t.side) (λ h. omega (arith, k.side)) (λ h. omega (arith, k.side)) (λ h. omega (arith, k.side)) (λ h. omega (arith, k.side)) k.side_on_block

  pub last_is : (r x : ℕ) → r < 3 → t.offset + ((t.side - 3 + r) * t.stride + x) ≡ field_at t (t.side - 3 + r) x
  unfolding field_at place
  last_is r x h = rw (mod-eq_of_lt {n = t.side - 3 + r} {m = t.side} (omega (arith, side_some)))

  -- in the superblock row
  pub row_in : (y x : ℕ) → t.top ≤ y → y < t.top + t.side → x < t.stride → (y - t.top) * t.stride + x < row_cells t
  unfolding row_cells
  row_in y x p q h = let l : y - t.top < t.side = omega arith in digits_lt l h

  pub last_in : (r x : ℕ) → r < 3 → x < t.stride → (t.side - 3 + r) * t.stride + x < row_cells t
  unfolding row_cells
  last_in r x p h = let l : t.side - 3 + r < t.side = omega (arith, side_some) in digits_lt l h

  -- places have 32 bits
  pub row_cells_low : row_cells t ≤ 262144
  unfolding row_cells
  row_cells_low = mul-le-mul k.side_low k.stride_low

  pub cells_low : t.offset + row_cells t ≤ 67371008
  cells_low = omega (arith, row_cells_low, k.offset_low)

  -- the place of a cell: within lists that reach to the end of the superblock row
  pub at_low : (i y x : ℕ) → i ≡ field_at t y x → x < t.stride → (i < t.offset + row_cells t) × (t.offset + row_cells t ≤ 67371008)
  at_low i y x e h = (rw e (field_low y x h), cells_low)

  pub col_low : (x : ℕ) → x < t.right → x < t.stride
  col_low x h = omega (arith, k.right, k.wide)

  -- plane j of a list of planes
  plane_col : (j y x : ℕ) → x < t.stride → (j * row_cells t + place t y x) % t.stride ≡ x
  unfolding place row_cells
  plane_col j y x h =
      let e : j * (t.side * t.stride) + (y % t.side * t.stride + x) ≡ (j * t.side + y % t.side) * t.stride + x =
      omega (arith, mul_assoc j t.side t.stride, add-mul (j * t.side) (y % t.side) t.stride) in
      ap (λ (i : ℕ). i % t.stride) e ∙ digits_mod (j * t.side + y % t.side) h

  pub traj_col : (n y x : ℕ) → x < t.stride → traj_at t n y x % t.stride ≡ x
  unfolding traj_at
  traj_col n y x h = plane_col n y x h

  -- a trajectory is one of the 7 × S × stride
  pub traj_low : (n y x : ℕ) → n < 7 → x < t.stride → traj_at t n y x < 7 * row_cells t
  unfolding traj_at
  traj_low n y x l h = digits_lt l (place_low y x h)

  pub map_col : (j n y x : ℕ) → x < t.stride → map_at t j n y x % t.stride ≡ x
  unfolding map_at
  map_col j n y x h = plane_col (j * 7 + n) y x h

  -- a map cell is one of the 3 × 7 × S × stride
  pub map_low : (j n y x : ℕ) → j < 3 → n < 7 → x < t.stride → map_at t j n y x < 21 * row_cells t
  unfolding map_at
  map_low j n y x p l h = let m : j * 7 + n < 21 = omega arith in digits_lt m (place_low y x h)

  pub map_plane : (j n y x : ℕ) → n < 7 → x < t.stride → map_at t j n y x / (7 * row_cells t) ≡ j
  unfolding map_at
  map_plane j n y x l h =
      let e : (j * 7 + n) * row_cells t + place t y x ≡ j * (7 * row_cells t) + (n * row_cells t + place t y x) =
      omega (arith, add-mul (j * 7) n (row_cells t), mul_assoc j 7 (row_cells t)) in
      ap (λ (i : ℕ). i / (7 * row_cells t)) e ∙ digits_div j (digits_lt l (place_low y x h))

  -- a sampled column stays in its block, and is not past the column
  pub step_block : (x : ℕ) → on_step t x / t.block ≡ x / t.block
  unfolding on_step
  step_block x = sides (λ B s. x / s * s / B ≡ x / B) (omega arith) (omega arith) (omega arith) (omega arith)

  pub step_le : (x : ℕ) → on_step t x ≤ x
  unfolding on_step
  step_le x = sides (λ B s. x / s * s ≤ x) (omega arith) (omega arith) (omega arith) (omega arith)

-- ---- windows

-- column b of a's window: at most one block to either side
pub record Near (t : Geometry) (a b : ℕ) : Type 0 where
  pub right : b / t.block ≤ a / t.block + 1
  pub left : a / t.block ≤ b / t.block + 1

-- a window of a block with the edge on both sides
pub near_block : (t : Geometry) → Sound t → (a b : ℕ) → a / t.block * t.block - t.edge ≤ b → b < a / t.block * t.block + t.block + t.edge → Near t a b
near_block t k a b p q =
    record {
      right =
          sides t k (λ B s. b < a / B * B + B + t.edge → t.edge ≤ B → b / B ≤ a / B + 1)
          (λ p q. omega arith) (λ p q. omega arith) (λ p q. omega arith) (λ p q. omega arith) q k.edge;
      left =
          sides t k (λ B s. a / B * B - t.edge ≤ b → t.edge ≤ B → a / B ≤ b / B + 1)
          (λ p q. omega arith) (λ p q. omega arith) (λ p q. omega arith) (λ p q. omega arith) p k.edge;
    }

pub near_col_lem : (t : Geometry) → Sound t → (a b : ℕ) → near_col t a b ≡ true → Near t a b × (b < t.wide)
unfolding near_col block_start
near_col_lem t k a b h =
    let w = and_both (leb (a / t.block * t.block - t.edge) b) (ltb b (min (a / t.block * t.block + t.block + t.edge) t.wide)) h in
    let l : a / t.block * t.block - t.edge ≤ b = leb-true (a / t.block * t.block - t.edge) b w.0 in
    let e : b < min (a / t.block * t.block + t.block + t.edge) t.wide = ltb-true b (min (a / t.block * t.block + t.block + t.edge) t.wide) w.1 in
    (near_block t k a b l (omega arith), omega arith)

-- a row of a's window is of a's block
pub near_row : (t : Geometry) → Sound t → (a b : ℕ) → same_rows t a b ≡ true → Near t a b × (b < t.high)
unfolding same_rows block_start
near_row t k a b h =
    let w = and_both (leb (a / t.block * t.block) b) (ltb b (min (a / t.block * t.block + t.block) t.high)) h in
    let l : a / t.block * t.block ≤ b = leb-true (a / t.block * t.block) b w.0 in
    let e : b < min (a / t.block * t.block + t.block) t.high = ltb-true b (min (a / t.block * t.block + t.block) t.high) w.1 in
    (near_block t k a b (omega arith) (omega arith), omega arith)

-- the sampled place is in the window too
pub near_step : (t : Geometry) → Sound t → (a b : ℕ) → Near t a b → Near t a (on_step t b)
near_step t k a b n = record { right = rw (step_block t k b) n.right; left = rw (step_block t k b) n.left }

-- a signed byte holds the way between two places of a window
pub near_low : (t : Geometry) → Sound t → (a b : ℕ) → Near t a b → (a ≤ b + 127) × (b ≤ a + 127)
near_low t k a b n =
    sides t k (λ B s. b / B ≤ a / B + 1 → a / B ≤ b / B + 1 → (a ≤ b + 127) × (b ≤ a + 127))
    (λ p q. omega arith) (λ p q. omega arith) (λ p q. omega arith) (λ p q. omega arith) n.right n.left
