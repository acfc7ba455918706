-- What contracts say of a sampled cell. Assumes nothing.
use Rattle.tile.specs.declared.visits.SampledCell.{SampledCell}
use Rattle.tile.specs.Geometry.{Geometry}
use Rattle.tile.specs.Sound.{Sample}

-- a cell and its block's columns, of the tile
abbrev pub IsSampled : Geometry → SampledCell → Type 0
IsSampled t c = Sample t c.start c.end c.y c.x
