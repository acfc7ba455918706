-- Bounds on whole numbers, as contracts state them. Assumes nothing.
use Rattle.std.specs.Prelude.{ℕ, ◌≤◌, ℤ, nat_abs}

-- z is at most n from 0. A record, so that a law finds n and z by itself
pub record Within (n : ℕ) (z : ℤ) : Type 0 where
  pub within : nat_abs z ≤ n
