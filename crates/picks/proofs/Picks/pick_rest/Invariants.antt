-- `picks::Picks::pick_rest` meets its contract. Assumes nothing.
use Rattle.std.proofs.Common.{◌≡◌, ◌-◌, ◌≤◌, length, take}
use Rattle.loops.specs.Over.{span}
use Rattle.picks.specs.Picks.{from_end, rest}
use Rattle.picks.proofs.Picks.pick_rest.Given as goal

-- what is left to go over is the front of the list
abbrev pub invariant-loop-s : goal.invariant-loop-s
invariant-loop-s l =
    let left = l.s-iterator.iter.rest.now in
    let count = length l.list in
    (left ≡ take (length left) l.list) × (length left ≤ count) × (span (from_end l.diffs l.list count) (count - length left) count l.self ≡ rest l.diffs l.list count l.initial.self)
