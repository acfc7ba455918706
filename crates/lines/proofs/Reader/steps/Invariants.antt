-- The bytes that are left give what all of them give.
use Rattle.std.proofs.Common.{◌≡◌, ◌-◌}
use Rattle.lines.specs.Line.{seen, steps_from, steps}
use Rattle.lines.proofs.Reader.steps.Given as goal

abbrev pub invariant-loop-i : goal.invariant-loop-i
invariant-loop-i g l = steps_from (l.i-end - l.i) l.input l.i (seen l.self) ≡ steps l.input (seen l.initial.self)
