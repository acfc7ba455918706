-- `tile::walk` meets its contract. Assumes nothing.
use Rattle.std.proofs.Common.{◌≡◌, ◌+◌, ◌-◌, ◌%◌, min}
use Rattle.store.specs.Program.{each_by}
use Rattle.store.proofs.Walks.{Rest}
use Rattle.tile.specs.Owner.{owns}
use Rattle.tile.specs.Tiles.{geometry}
use Rattle.tile.proofs.visits.walk.Given as goal

abbrev pub decreases-loop-x : goal.decreases-loop-x
decreases-loop-x g l = l.end - l.x

abbrev pub decreases-loop-y : goal.decreases-loop-y
decreases-loop-y g l = l.t.bottom - l.y

abbrev pub decreases-loop-start : goal.decreases-loop-start
decreases-loop-start g l = l.t.right - l.start

abbrev pub invariant-loop-x : goal.invariant-loop-x
invariant-loop-x g l =
    record {
      same : g.P.Pass.Same l.part l.fn.part;
      on : l.x % l.t.step ≡ 0;
      rest : Rest (owns (geometry l.t)) l.t.step l.start l.x l.end (g.P.Pass.program l.pass (geometry l.t) l.start l.end l.y) (λ s. g.P.Pass.stored s l.part) (λ s. g.P.Pass.stored s l.initial.part);
    }

abbrev pub invariant-loop-y : goal.invariant-loop-y
invariant-loop-y g l =
    record {
      same : g.P.Pass.Same l.part l.fn.part;
      on : l.y % l.t.step ≡ 0;
      rest : Rest (owns (geometry l.t)) l.t.step l.t.top l.y l.t.bottom (λ y. each_by l.t.step l.start l.end (g.P.Pass.program l.pass (geometry l.t) l.start l.end y)) (λ s. g.P.Pass.stored s l.part) (λ s. g.P.Pass.stored s l.initial.part);
    }

abbrev pub invariant-loop-start : goal.invariant-loop-start
invariant-loop-start g l =
    record {
      same : g.P.Pass.Same l.part l.fn.part;
      on : l.start % l.t.block ≡ 0;
      rest : Rest (owns (geometry l.t)) l.t.block l.t.left l.start l.t.right (λ sx. each_by l.t.step l.t.top l.t.bottom (λ y. each_by l.t.step sx (min l.t.right (sx + l.t.block)) (g.P.Pass.program l.pass (geometry l.t) sx (min l.t.right (sx + l.t.block)) y))) (λ s. g.P.Pass.stored s l.part) (λ s. g.P.Pass.stored s l.initial.part);
    }
