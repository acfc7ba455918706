-- What the contract of a tile's load speaks of besides the definitions. Assumes nothing.
use Rattle.std.specs.Prelude.{◌≡◌, List, ℤ}
use Rattle.frame.specs.declared.Frame.{Frame}
use Rattle.load.specs.declared.Asked.{Asked}
use Rattle.load.specs.Load.{Call}

-- what a call asks for besides its tile, whose columns and rows stand in the tile itself
pub record AsksFor (c : Call) (f : Frame) (a : Asked) (l : List ℤ) : Type 0 where
  pub setup : c.setup ≡ f
  pub whole_frame : c.whole_frame ≡ a.whole_frame
  pub traj : c.traj ≡ a.traj
  pub holes : c.holes ≡ a.holes
  pub planes : c.planes ≡ l
