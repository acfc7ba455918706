-- `frame_cases::switches_at` meets its contract. Assumes nothing.
use Rattle.std.proofs.Common.{◌+◌, rules}
use Rattle.loops.proofs.Seven.{made_is}
use Rattle.cases.specs.Numbers.{at, is_on}
use Rattle.frame_cases.specs.FrameCase.{switches_at}
use Rattle.frame_cases.proofs.switches_at.Goals as goal

pub returns : goal.returns
unfolding switches_at
returns c = made_is _ _ (λ i. is_on (at c.args.n.now (c.args.k + i))) (λ i y q l k. search rules) _ c.from_fn.ensures.items
