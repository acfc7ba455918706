-- A whole run of replay. Assumes nothing.
use Rattle.std.specs.Prelude.{◌≡◌, Bool, None, is_some, replicate}
use Rattle.lines.specs.Line.{Reader}
use Rattle.lines.specs.Run.{Ended}
use Rattle.replay.specs.declared.Replay.{Replay}
use Rattle.replay.specs.Kinds.{Taken}

-- before the first line: nothing has ended the run, and all tallies are 0
abbrev pub IsNew : Replay → Type 0
IsNew r = r ≡ record { ended = None; tallies = replicate 8 0 }

-- what the line that was read makes of it
abbrev pub Takes : Reader → Replay → Replay → Type 0
Takes l r s = Taken l r.tallies s.tallies s.ended

-- a line has ended the run
abbrev pub over : Replay → Bool
over r = is_some r.ended

-- the end of a run that left this line and this: a line has at most 16 letters and 1024 numbers
abbrev pub IsEnd : Reader → Replay → Type 0
IsEnd l r = Ended 16 1024 IsNew Takes over l r
