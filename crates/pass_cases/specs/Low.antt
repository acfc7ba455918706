-- The ranges of what a line's pass is asked for. Assumes nothing.
use Rattle.std.specs.Prelude.{ℕ, ◌<◌}
use Rattle.intops.specs.Bounds.{Within}
use Rattle.levels.specs.declared.Mv.{Mv}
use Rattle.intersect.specs.declared.Place.{Place}

-- two slots, a block and a vector as check_traj_intersect takes them
pub record Low (slot other : ℕ) (place : Place) (v : Mv) : Type 0 where
  pub slot_low : slot < 7
  pub other_low : other < 7
  pub row_low : place.y < 8192
  pub y_low : Within 65535 v.y
  pub x_low : Within 65535 v.x
