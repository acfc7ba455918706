-- Lent trajectories are as long after a step that leaves their lengths. Assumes nothing.
use Rattle.std.proofs.Common.{arith, ℤ}
use Rattle.store.specs.declared.Pairs.{Pairs}
use Rattle.store.specs.Lent.{IsSamePairs}
use Rattle.tile.specs.Geometry.{Geometry}
use Rattle.tile.specs.Lent.{IsTrajHeld}

pub traj_held_after : (t : Geometry) {p q : Pairs ℤ} → IsSamePairs p q → IsTrajHeld t q → IsTrajHeld t p
traj_held_after t a h = record { y = omega (arith, a.y_length, h.y); x = omega (arith, a.x_length, h.x) }
