-- What a verdict that a kept load agrees says of its lines: a setup, a call and its answer, planes, the store that was lent and the numbers that are wanted.
-- Assumes nothing.
use Rattle.std.specs.Prelude.{◌≡◌, List, ℕ, ◌+◌, ◌<◌, ℤ, pos, nat_abs, length, get_or}
use Rattle.frame.specs.declared.Frame.{Frame}
use Rattle.store.specs.Store.{Store}
use Rattle.store.specs.Calls.{called}
use Rattle.load.specs.declared.Asked.{Asked}
use Rattle.load.specs.Asked.{call_of}
use Rattle.load.specs.Load.{Call}
use Rattle.load.specs.Calls.{answer, load}
use Rattle.cases.specs.Numbers.{at, Sizes, is_on}
use Rattle.frame_cases.specs.FrameCase.{record_of, Stated}

-- columns and rows, of the numbers from k on, are no negative ones
abbrev pub TileNumbers : List ℤ → ℕ → Type 0
TileNumbers n k = Sizes (k + 3) (k + 7) n

-- what the numbers from k on ask for: the mode, two switches, columns, rows
unfoldable pub asked_at : List ℤ → ℕ → Asked
asked_at n k =
    record {
      whole_frame = is_on (at n k);
      traj = is_on (at n (k + 1));
      holes = is_on (at n (k + 2));
      col_start = nat_abs (at n (k + 3));
      col_end = nat_abs (at n (k + 4));
      row_start = nat_abs (at n (k + 5));
      row_end = nat_abs (at n (k + 6));
    }

-- the call of a setup, of what the numbers from k on ask, and of planes
abbrev pub call_at : Frame → List ℤ → ℕ → List ℤ → Call
call_at f n k planes = call_of f (asked_at n k) planes

-- the elements of a list are the numbers from `from` on; and those of a list of bytes
abbrev pub Listed : List ℤ → List ℤ → ℕ → Type 0
Listed l n from = (k : ℕ) → k < length l → at n (from + k) ≡ at l k

abbrev pub ListedBytes : List ℕ → List ℤ → ℕ → Type 0
ListedBytes l n from = (k : ℕ) → k < length l → at n (from + k) ≡ pos (get_or l k 0)

-- every element of a store, in a list of numbers that has room for the longest lists
pub record StoreListed (s : Store) (n : List ℤ) : Type 0 where
  pub field_y : Listed s.field_y n 0
  pub field_x : Listed s.field_x n 2048
  pub field_ref : ListedBytes s.field_ref n 4096
  pub traj_y : Listed s.traj_y n 6144
  pub traj_x : Listed s.traj_x n 13318
  pub map_y : Listed s.map_y n 20492
  pub map_x : Listed s.map_x n 42002

-- the numbers of a `setup` line and of a `call` line, the planes, the store, and what is wanted: the setup is the record that has the line's numbers; the answer, and
-- every element of the store after the call, are what the definition gives
pub record CallAgrees (setup n planes : List ℤ) (s : Store) (want : List ℤ) : Type 0 where
  pub frame : Frame
  pub stated : Stated (record_of frame) setup 0
  pub same_answer : at n 7 ≡ pos (answer (call_at frame n 0 planes) s)
  pub same_store : StoreListed (called answer load (call_at frame n 0 planes) s) want
