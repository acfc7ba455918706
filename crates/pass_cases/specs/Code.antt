-- What the contracts of a pass's judge speak of besides what a verdict says. Assumes nothing.
use Rattle.std.specs.Prelude.{List, [], ◌≡◌, ◌<◌, ℕ, ℤ, nat_abs}
use Rattle.frame.specs.declared.Frame.{Frame}
use Rattle.store.specs.Store.{Store, vec}
use Rattle.store.specs.Program.{Prog, run, each}
use Rattle.tile.specs.Geometry.{Geometry}
use Rattle.tile.specs.Owner.{owns}
use Rattle.field.specs.Field.{tip_projection, fill_holes, smoothen, fill_gap_proj}
use Rattle.traj.specs.Traj.{fill_gap_traj, check_traj_intersect}
use Rattle.load.specs.declared.Asked.{Asked}
use Rattle.load.specs.Asked.{call_of}
use Rattle.load.specs.Load.{tile_of}
use Rattle.cases.specs.Numbers.{at}
use Rattle.pass_cases.specs.declared.pass.Kind.{Kind}
use Rattle.pass_cases.specs.declared.pass.Kind.TheVariants.{Emptying, TipProjection, FillHoles, Smoothen, FillGapProj, FillGapTraj, CheckTrajIntersect}
use Rattle.pass_cases.specs.declared.pass.Pass.{Pass}
use Rattle.pass_cases.specs.PassCase.{PassNumbers, emptying, Accepted}

-- the number of a kind on a line
abbrev pub code : Kind → ℕ
code Emptying = 0
code TipProjection = 1
code FillHoles = 2
code Smoothen = 3
code FillGapProj = 4
code FillGapTraj = 5
code CheckTrajIntersect = 6

-- p is the pass that the numbers of a line ask for
pub record Asks (n : List ℤ) (p : Pass) : Type 0 where
  pub numbers : PassNumbers n
  pub kind : code p.kind ≡ nat_abs (at n 0)
  pub a : p.a ≡ nat_abs (at n 1)
  pub b : p.b ≡ nat_abs (at n 2)
  pub y : p.block.y ≡ nat_abs (at n 3)
  pub x : p.block.x ≡ nat_abs (at n 4)
  pub mv : p.mv ≡ vec (at n 5) (at n 6)

-- what a pass of a kind does, on the tile that is asked for, with the TIP distance
abbrev pub program_of : Geometry → Asked → ℤ → Pass → Kind → Prog
program_of t a delta p Emptying = emptying t a.whole_frame a.traj
program_of t a delta p TipProjection = tip_projection t delta
program_of t a delta p FillHoles = fill_holes t delta
program_of t a delta p Smoothen = smoothen t delta
program_of t a delta p FillGapProj = fill_gap_proj t
program_of t a delta p FillGapTraj = each 0 7 (fill_gap_traj t)
program_of t a delta p CheckTrajIntersect = check_traj_intersect t p.a p.b p.block.y p.block.x p.mv

-- a tile that a pass can be run on: the block is in a row, and gaps are between samples
pub record Applies (t : Geometry) (p : Pass) : Type 0 where
  pub in_row : p.block.x < t.stride
  pub field_gaps : p.kind ≡ FillGapProj → t.step ≡ 2
  pub trajectory_gaps : p.kind ≡ FillGapTraj → t.step ≡ 2

-- the tests accept the tile, and u is what the pass makes of s
pub record Ran (f : Frame) (a : Asked) (p : Pass) (s u : Store) : Type 0 where
  pub accepted : Accepted f a s
  pub left : let t = tile_of (call_of f a []) in u ≡ run (owns t) (program_of t a f.tip.delta p p.kind) s
