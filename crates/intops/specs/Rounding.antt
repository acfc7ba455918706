-- Rounding to nearest, halves away from zero. Assumes nothing.
use Rattle.std.specs.Prelude.{◌≡◌, ℕ, ◌+◌, ◌*◌, ◌/◌, ◌≤◌, ℤ, pos, nat_abs, ◌-ℤ◌, ◌*ℤ◌}
use Rattle.intops.specs.Choice.{with_sign}

-- 01 "Vector": z divided by d, rounded to nearest, a negative half away from zero like a positive one: the magnitude, with half of d added, over d; with z's sign
unfoldable pub round_div : ℕ → ℤ → ℤ
round_div d z = with_sign z ((nat_abs z + d / 2) / d)

-- r is the whole number nearest to z / d, d not 0; where z / d lies half way between two, the one farther from zero
pub record Nearest (d : ℕ) (z r : ℤ) : Type 0 where
  pub near : 2 * nat_abs (z -ℤ pos d *ℤ r) ≤ d
  pub away : 2 * nat_abs (z -ℤ pos d *ℤ r) ≡ d → nat_abs z ≤ d * nat_abs r
