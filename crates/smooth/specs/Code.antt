-- What the contracts of smoothing's code speak of besides the definitions. Assumes nothing.
use Rattle.std.specs.Prelude.{◌≡◌, List, [], ℕ, ◌+◌, ◌-◌, ◌/◌, ◌%◌, ◌≤◌, ◌<◌, min, pos, length, get_or}
use Rattle.levels.specs.declared.Mv.{Mv}
use Rattle.store.specs.Store.{vec}
use Rattle.tile.specs.Geometry.{Geometry}

-- the block from row sy, column sx on, and how many sampled rows and columns it has
pub record InBlock (t : Geometry) (sx xend sy rows cols : ℕ) : Type 0 where
  pub left : t.left ≤ sx
  pub right : sx < t.right
  pub on_col : sx % t.block ≡ 0
  pub end : xend ≡ min t.right (sx + t.block)
  pub top : t.top ≤ sy
  pub bottom : sy < t.bottom
  pub on_row : sy % t.block ≡ 0
  pub row_count : rows ≡ (min t.bottom (sy + t.block) - sy + (t.step - 1)) / t.step
  pub col_count : cols ≡ (xend - sx + (t.step - 1)) / t.step

-- eight rows of eight means
pub record AreRows (means : List (List Mv)) : Type 0 where
  pub long : length means ≡ 8
  pub wide : (i : ℕ) → i < 8 → length (get_or means i []) ≡ 8

-- the mean in row a, column b of a block's rows of means, (0, 0) past an end
abbrev pub mean_in : List (List Mv) → ℕ → ℕ → Mv
mean_in means a b = get_or (get_or means a []) b (vec (pos 0) (pos 0))
