-- `tile::walk` meets its contract. Assumes nothing.
use Rattle.std.proofs.Common.{◌∙◌, arith}
use Rattle.std.proofs.Math.Nat.{add-mod_right}
use Rattle.store.proofs.Walks.{rest_begins, rest_turn, rest_ends}
use Rattle.tile.specs.Tiles.{geometry}
use Rattle.tile.proofs.Places.{block_some, step_some, block_on_step}
use Rattle.tile.proofs.visits.walk.Goals as goal

pub loop-start-init : goal.loop-start-init
loop-start-init g c = record { same = g.met.P.Pass.same _; on = c.args.t.now.sound.start; rest = rest_begins _ _ _ _ _ _ }

pub loop-y-init : goal.loop-y-init
loop-y-init g c =
    let k = c.args.t.now.sound in
    record { same = c.loop-start.invariant.same; on = block_on_step (geometry c.args.t.now) k c.args.t.now.top k.top_on_block; rest = rest_begins _ _ _ _ _ _ }

pub loop-x-init : goal.loop-x-init
loop-x-init g c = record { same = c.loop-y.invariant.same; on = block_on_step (geometry c.args.t.now) c.args.t.now.sound c.loop-start.start c.loop-start.invariant.on; rest = rest_begins _ _ _ _ _ _ }

pub visit-requires-clause-sampled : goal.visit-requires-clause-sampled
visit-requires-clause-sampled g c =
    let b = c.loop-start.invariant.rest.from in let a = c.loop-x.invariant.rest.from in
    record {
      cell = record { top = c.loop-y.invariant.rest.from; bottom = omega arith; left = omega (arith, b, a); right = omega (arith, c.min-end.ensures) };
      left = b;
      from = a;
      to = omega arith;
      end = c.min-end.ensures;
      row = c.loop-y.invariant.on;
      col = c.loop-x.invariant.on;
    }

pub visit-requires-clause-held : goal.visit-requires-clause-held
visit-requires-clause-held g c = g.met.P.Pass.held_after _ _ _ c.loop-x.invariant.same c.requires.held

pub loop-x-preserved : goal.loop-x-preserved
loop-x-preserved g c =
    record {
      same = g.met.P.Pass.same_after _ _ _ c.visit.ensures.same c.loop-x.invariant.same;
      on = add-mod_right c.loop-x.x c.args.t.now.step ∙ c.loop-x.invariant.on;
      rest = rest_turn _ _ _ _ _ _ _ _ (step_some (geometry c.args.t.now) c.args.t.now.sound) _ c.loop-x.invariant.rest (omega arith) c.visit.ensures.stored;
    }

pub loop-y-preserved : goal.loop-y-preserved
loop-y-preserved g c =
    let some = step_some (geometry c.args.t.now) c.args.t.now.sound in
    record {
      same = c.loop-x.invariant.same;
      on = add-mod_right c.loop-y.y c.args.t.now.step ∙ c.loop-y.invariant.on;
      rest = rest_turn _ _ _ _ _ _ _ _ some _ c.loop-y.invariant.rest (omega arith) (rest_ends _ _ _ _ _ _ _ _ some c.loop-x.invariant.rest (omega arith));
    }

pub loop-start-preserved : goal.loop-start-preserved
loop-start-preserved g c =
    let k = c.args.t.now.sound in
    record {
      same = c.loop-y.invariant.same;
      on = add-mod_right c.loop-start.start c.args.t.now.block ∙ c.loop-start.invariant.on;
      rest =
          rest_turn _ _ _ _ _ _ _ _ (block_some (geometry c.args.t.now) k) _ c.loop-start.invariant.rest (omega arith)
          (λ s. rw c.min-end.ensures at (rest_ends _ _ _ _ _ _ _ _ (step_some (geometry c.args.t.now) k) c.loop-y.invariant.rest (omega arith) s));
    }

pub returns-clause-stored : goal.returns-clause-stored
returns-clause-stored g c = rest_ends _ _ _ _ _ _ _ _ (block_some (geometry c.args.t.now) c.args.t.now.sound) c.loop-start.invariant.rest (omega arith)
