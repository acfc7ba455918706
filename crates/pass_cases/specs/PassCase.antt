-- What a verdict that a kept pass agrees says of its lines: a setup, a pass of a tile, the store that was lent and the numbers that are wanted. Assumes nothing.
use Rattle.std.specs.Prelude.{Bool, true, not, cond, List, [], ◌≡◌, ℕ, ◌*◌, eqb, ltb, ℤ, pos, negsuc, nat_abs, length}
use Rattle.frame.specs.declared.Frame.{Frame}
use Rattle.store.specs.Store.{Store, vec}
use Rattle.store.specs.Program.{Prog, run, when, each, ◌>>◌}
use Rattle.tile.specs.Geometry.{Geometry}
use Rattle.tile.specs.Owner.{owns}
use Rattle.field.specs.Field.{copy_above, empty_field, tip_projection, fill_holes, smoothen, fill_gap_proj}
use Rattle.traj.specs.Traj.{empty_trajs, fill_gap_traj, check_traj_intersect}
use Rattle.load.specs.declared.Asked.{Asked}
use Rattle.load.specs.Asked.{call_of}
use Rattle.load.specs.Load.{Call, high_of, stride_of, tile_of}
use Rattle.load.specs.Calls.{setup_in_range, tile_fits, long_enough}
use Rattle.cases.specs.Numbers.{at, AllInside}
use Rattle.frame_cases.specs.FrameCase.{record_of, Stated}
use Rattle.load_cases.specs.LoadCase.{TileNumbers, asked_at, call_at, StoreListed}

-- a line's fourteen numbers: kind a b y x mv_y mv_x, then the seven of a call's mode, switches and tile. Kind and slots are 0 to 6
pub record PassNumbers (n : List ℤ) : Type 0 where
  pub slots : AllInside (pos 0) (pos 6) 0 3 n
  pub block : AllInside (pos 0) (pos 8191) 3 5 n
  pub vector : AllInside (negsuc 65534) (pos 65535) 5 7 n
  pub tile : TileNumbers n 7

-- kind 0, what a load begins with (01 "A load does, in order"): the copy of the rows above in row mode, the emptying
abbrev pub emptying : Geometry → Bool → Bool → Prog
emptying t whole_frame traj = do
  when (not whole_frame) (copy_above t)
  empty_field t
  when traj (empty_trajs t)

-- kinds 1 to 4: tip_projection, fill_holes, smoothen, fill_gap_proj
abbrev pub field_pass : Geometry → ℤ → ℕ → Prog
field_pass t delta kind = cond (eqb kind 1) (tip_projection t delta) (cond (eqb kind 2) (fill_holes t delta) (cond (eqb kind 3) (smoothen t delta) (fill_gap_proj t)))

-- kind 6: check_traj_intersect of slots a and b for the vector of the block at (y, x)
abbrev pub meeting : Geometry → List ℤ → Prog
meeting t n = check_traj_intersect t (nat_abs (at n 1)) (nat_abs (at n 2)) (nat_abs (at n 3)) (nat_abs (at n 4)) (vec (at n 5) (at n 6))

-- the pass of a kind; kind 5 is fill_gap_traj of every slot
unfoldable pub pass_of : Geometry → Bool → Bool → ℤ → List ℤ → ℕ → Prog
pass_of t whole_frame traj delta n kind =
    cond (eqb kind 0) (emptying t whole_frame traj) (cond (ltb kind 5) (field_pass t delta kind) (cond (eqb kind 5) (each 0 7 (fill_gap_traj t)) (meeting t n)))

-- the store that the pass of a call leaves
abbrev pub after_pass : Call → List ℤ → Store → Store
after_pass c n s = run (owns (tile_of c)) (pass_of (tile_of c) c.whole_frame c.traj c.setup.tip.delta n (nat_abs (at n 0))) s

-- tests 9 to 11 accept what is asked on s, lent planes that are just as long as they have to be: a pass reads none, and a case has none
pub record Accepted (f : Frame) (a : Asked) (s : Store) : Type 0 where
  pub setup : setup_in_range f ≡ true
  pub tile : tile_fits (call_of f a []) ≡ true
  pub long : (planes : List ℤ) → length planes ≡ 6 * (7 * (high_of f * stride_of f)) → long_enough (call_of f a planes) s ≡ true

-- the numbers of a `setup` line and of a `pass` line, the store, and what is wanted: the setup is the record that has the line's numbers; a load of the tile passes
-- tests 9 to 11; every element of the store after the pass is what the definition gives
pub record PassAgrees (setup n : List ℤ) (s : Store) (want : List ℤ) : Type 0 where
  pub frame : Frame
  pub stated : Stated (record_of frame) setup 0
  pub numbers : PassNumbers n
  pub accepted : Accepted frame (asked_at n 7) s
  pub same_store : StoreListed (after_pass (call_at frame n 7 []) n s) want
