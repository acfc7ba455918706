-- What the turns that are left find, is found from the first line on.
use Rattle.std.proofs.Common.{◌-◌, ◌^◌}
use Rattle.lines.specs.Line.{seen}
use Rattle.lines.proofs.Laws.{Left}
use Rattle.lines.proofs.Reader.next_line.Given as goal

abbrev pub invariant-loop : goal.invariant-loop
invariant-loop g l = Left (2 ^ 64 - 1) (2 ^ 64 - 1 - l.counter) l.initial.input (seen l.initial.self) l.input (seen l.self)
