-- `Pairs::fill` meets its contract. Assumes nothing.
use Rattle.std.proofs.Common.{arith}
use Rattle.std.proofs.lemmas.Grind.{common_steps}
use Rattle.store.proofs.Turns.{filled_parts}
use Rattle.store.proofs.Pairs.fill.Goals as goal

pub returns-clause-y : goal.returns-clause-y
returns-clause-y g c = rw (filled_parts c.args.y c.args.a c.args.b c.args.self.now.y.now c.requires.order c.requires.y) (grind (arith, common_steps))

pub returns-clause-x : goal.returns-clause-x
returns-clause-x g c = rw (filled_parts c.args.x c.args.a c.args.b c.args.self.now.x.now c.requires.order c.requires.x) (grind (arith, common_steps))
