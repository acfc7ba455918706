-- `picks::Picks::pick_neighbours` meets its contract. Assumes nothing.
use Rattle.std.proofs.Common.{◌≡◌}
use Rattle.loops.specs.Over.{span}
use Rattle.picks.specs.Picks.{round, neighbours}
use Rattle.picks.proofs.Picks.pick_neighbours.Given as goal

abbrev pub invariant-loop-n : goal.invariant-loop-n
invariant-loop-n l = span (round l.h.hints.pocs l.sorted.order l.sorted.first) l.n 2 l.self ≡ neighbours l.h.hints.pocs l.sorted.order l.sorted.first l.initial.self
