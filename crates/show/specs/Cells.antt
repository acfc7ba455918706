-- The lists of a field as they are read. Assumes nothing.
use Rattle.std.specs.Prelude.{ℕ, ◌+◌, ◌≤◌, length}
use Rattle.show.specs.declared.Cells.{Cells}

-- a row of n cells from `base` on is in the lists of vectors
pub record HasRow (c : Cells) (base n : ℕ) : Type 0 where
  pub y : base + n ≤ length c.y.now
  pub x : base + n ≤ length c.x.now
