-- A whole run of replay_loads. Assumes nothing.
use Rattle.std.specs.Prelude.{◌≡◌, Bool, is_some, replicate}
use Rattle.lines.specs.Line.{Reader}
use Rattle.lines.specs.Run.{Ended}
use Rattle.replay_loads.specs.declared.Replay.{Replay}
use Rattle.replay_loads.specs.Calls.{new_book, Taken}

-- before the first line: no case, no setup, no call, and all tallies are 0. The lists may be anything: a `case` line clears them
pub record IsNew (r : Replay) : Type 0 where
  pub book : r.book ≡ new_book
  pub tallies : r.tallies ≡ replicate 3 0

-- what the line that was read makes of it
abbrev pub Takes : Reader → Replay → Replay → Type 0
Takes l r s = Taken r.book l r.lists s.lists r.tallies s.tallies s.book

-- a line has ended the run
abbrev pub over : Replay → Bool
over r = is_some r.book.ended

-- the end of a run that left this line and this: a line has at most 16 letters and 256 numbers
abbrev pub IsEnd : Reader → Replay → Type 0
IsEnd l r = Ended 16 256 IsNew Takes over l r
