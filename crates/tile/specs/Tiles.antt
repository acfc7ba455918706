-- A tile's numbers as contracts speak of them. Assumes nothing.
use Rattle.tile.specs.declared.numbers.Tile.{Tile}
use Rattle.tile.specs.Geometry.{Geometry, geometry_of}

abbrev pub geometry : Tile → Geometry
geometry t = geometry_of t.side t.block t.edge t.step t.wide t.high t.stride t.offset t.left t.right t.top t.bottom
