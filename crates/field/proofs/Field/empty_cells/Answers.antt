-- `Field::empty_cells` meets its contract. Assumes nothing.
use Rattle.std.proofs.Common.{refl, arith, rules}
use Rattle.std.proofs.lemmas.Grind.{common_steps}
use Rattle.loops.specs.Seven.{storing}
use Rattle.loops.proofs.Turns.{turned, ended}
use Rattle.store.proofs.Turns.{filled_parts}
use Rattle.field.proofs.Field.empty_cells.Goals as goal

pub loop-i-preserved : goal.loop-i-preserved
loop-i-preserved c =
    let l = c.loop-i in let i = l.invariant in (
      search rules,
      turned (storing (λ n. _)) c.args.b l.i _ _ _ (omega arith) refl i.1,
      turned (storing (λ n. _)) c.args.b l.i _ _ _ (omega arith) refl i.2,
      i.3,
    )

pub returns-after-loop-i-clause-y : goal.returns-after-loop-i-clause-y
returns-after-loop-i-clause-y c = ended (storing (λ n. _)) c.args.b c.loop-i.i _ _ (omega arith) c.loop-i.invariant.1

pub returns-after-loop-i-clause-x : goal.returns-after-loop-i-clause-x
returns-after-loop-i-clause-x c = ended (storing (λ n. _)) c.args.b c.loop-i.i _ _ (omega arith) c.loop-i.invariant.2

pub returns-else-b-a-le128-clause-y : goal.returns-else-b-a-le128-clause-y
returns-else-b-a-le128-clause-y c = rw (filled_parts _ c.args.a c.args.b c.args.self.now.y.now c.requires.order c.requires.y) (grind (arith, common_steps))

pub returns-else-b-a-le128-clause-x : goal.returns-else-b-a-le128-clause-x
returns-else-b-a-le128-clause-x c = rw (filled_parts _ c.args.a c.args.b c.args.self.now.x.now c.requires.order c.requires.x) (grind (arith, common_steps))
