-- How long the lent trajectories and maps are. Assumes nothing.
use Rattle.std.specs.Prelude.{ℤ}
use Rattle.store.specs.declared.Pairs.{Pairs}
use Rattle.tile.specs.Geometry.{Geometry}
use Rattle.tile.specs.Sound.{TrajHeld, MapHeld}

abbrev pub IsTrajHeld : Geometry → Pairs ℤ → Type 0
IsTrajHeld t p = TrajHeld t p.y.now p.x.now

abbrev pub IsMapHeld : Geometry → Pairs ℤ → Type 0
IsMapHeld t p = MapHeld t p.y.now p.x.now
