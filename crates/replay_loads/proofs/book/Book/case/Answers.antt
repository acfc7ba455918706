use Rattle.std.proofs.Common.{ap, ◌∙◌}
use Rattle.replay_loads.specs.declared.book.End.TheVariants.{NotALine, NoRoom}
use Rattle.replay_loads.specs.Calls.{ended, opens_none}
use Rattle.replay_loads.proofs.book.Book.case.Goals as goal

pub returns-then-not-is_free : goal.returns-then-not-is_free
returns-then-not-is_free c = opens_none {why = NotALine} tt c.end.ensures

pub returns-then-n-ne9 : goal.returns-then-n-ne9
returns-then-n-ne9 c = opens_none {why = NotALine} tt c.end-then-n-ne9.ensures

pub returns-then-room_of-length : goal.returns-then-room_of-length
returns-then-room_of-length c = opens_none {why = NoRoom} tt (c.end-then-room_of-length.ensures ∙ ap (ended NoRoom) c.loop-list.invariant.same)
