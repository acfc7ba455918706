-- `smooth::smoothen` meets its contract. Assumes nothing.
use Rattle.tile.specs.Tiles.{geometry}
use Rattle.smooth.proofs.Blocks.{AtSquare, AtColumn}
use Rattle.smooth.proofs.smoothen.Given as goal

abbrev pub invariant-loop-top : goal.invariant-loop-top
invariant-loop-top l = AtSquare (geometry l.t) l.delta l.start l.end l.top l.field l.initial.field

abbrev pub invariant-loop-start : goal.invariant-loop-start
invariant-loop-start l = AtColumn (geometry l.t) l.delta l.start l.field l.initial.field
