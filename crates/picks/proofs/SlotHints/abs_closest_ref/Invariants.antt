-- `picks::SlotHints::abs_closest_ref` meets its contract. Assumes nothing.
use Rattle.std.proofs.Common.{◌≡◌}
use Rattle.loops.specs.Over.{span}
use Rattle.picks.specs.Hints.{closer_of, closest}
use Rattle.picks.proofs.SlotHints.abs_closest_ref.Given as goal

abbrev pub invariant-loop-n : goal.invariant-loop-n
invariant-loop-n l = span (closer_of l.self.hints.now.pocs l.self.slot.0 l.late) l.n 7 l.b ≡ closest l.self.hints.now.pocs l.self.slot.0 l.late
