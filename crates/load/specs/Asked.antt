-- The call that a load is asked for. Assumes nothing.
use Rattle.std.specs.Prelude.{Bool, List, ℕ, ℤ}
use Rattle.frame.specs.declared.Frame.{Frame}
use Rattle.load.specs.declared.Asked.{Asked}
use Rattle.load.specs.Load.{Call}

-- a call of its parts: the mode, the switches, the columns and the rows
abbrev pub asked_of : Bool → Bool → Bool → ℕ → ℕ → ℕ → ℕ → Asked
asked_of w t h a b c d =
    record {
      whole_frame = w;
      traj = t;
      holes = h;
      col_start = a;
      col_end = b;
      row_start = c;
      row_end = d;
    }

-- the same with these switches
abbrev pub switched : Bool → Bool → Asked → Asked
switched t h a = asked_of a.whole_frame t h a.col_start a.col_end a.row_start a.row_end

-- the call with a setup and the planes
abbrev pub call_of : Frame → Asked → List ℤ → Call
call_of f a p =
    record {
      setup = f;
      whole_frame = a.whole_frame;
      traj = a.traj;
      holes = a.holes;
      col_start = a.col_start;
      col_end = a.col_end;
      row_start = a.row_start;
      row_end = a.row_end;
      planes = p;
    }
