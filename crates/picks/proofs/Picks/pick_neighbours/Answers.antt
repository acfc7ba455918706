-- `picks::Picks::pick_neighbours` meets its contract. Assumes nothing.
use Rattle.std.proofs.Common.{◌≡◌, ◌∙◌}
use Rattle.loops.proofs.Turns.{turned}
use Rattle.picks.specs.Picks.{round}
use Rattle.picks.proofs.Picks.pick_neighbours.Goals as goal

pub loop-n-preserved : goal.loop-n-preserved
loop-n-preserved c =
    let l = c.loop-n in let h = c.args.h.now.hints.pocs in let s = c.args.sorted.now in
    let e : c.in_turn.new.self ≡ round h s.order s.first l.n l.self =
    c.in_turn.ensures ∙ rw (c.with_side-a.ensures.value, c.with_side-b.ensures.value, c.nth_earlier.ensures.value, c.nth_later.ensures.value) in
    turned (round h s.order s.first) 2 l.n l.self _ _ c.loop-n-test.true e l.invariant
