-- What the contracts of the code speak of besides the definitions. Assumes nothing.
use Rattle.std.specs.Prelude.{◌≡◌, true, ℕ, ◌+◌, ◌/◌, ◌≤◌, ◌<◌, ℤ, pos, neg_ℤ, nat_abs, Option, Some, None, if◌then◌else◌}
use Rattle.std.specs.Bool.{then_some}
use Rattle.std.specs.Int.Signed.{lt_z}
use Rattle.levels.specs.declared.Mv.{Mv}
use Rattle.tile.specs.Geometry.{Geometry}
use Rattle.tile.specs.Layout.{on_step, cells_of, moved}
use Rattle.tile.specs.Owner.{own_block}
use Rattle.project.specs.Project.{lands}
use Rattle.intersect.specs.declared.Place.{Place}

-- a slot as a source has it: a negative number is none
abbrev pub slot_of : ℤ → Option ℕ
slot_of z = if lt_z z (pos 0) then None else Some (nat_abs z)

-- where a vector of (y, x) lands, if it does
abbrev pub landing_of : Geometry → ℕ → ℕ → Mv → Option Place
landing_of t y x w =
    then_some (lands t y x w) (record { y = on_step t (moved y (neg_ℤ (cells_of w.y))); x = on_step t (moved x (neg_ℤ (cells_of w.x))) })

-- where a vector of (y, x) lands: a cell of the tile, in the rows of y's block, at most one block to either side of x's
pub record Landing (t : Geometry) (y x y₁ x₁ : ℕ) : Type 0 where
  pub row : y < t.bottom
  pub col : x < t.wide
  pub top : t.top ≤ y₁
  pub bottom : y₁ < t.top + t.side
  pub rows : y / t.block ≡ y₁ / t.block
  pub own : own_block t (x₁ / t.block + 1) ≡ true
  pub right : x / t.block ≤ x₁ / t.block + 1
  pub left : x₁ / t.block ≤ x / t.block + 1
