-- `framefile::switches_at` meets its contract. Assumes nothing.
use Rattle.std.proofs.Common.{◌+◌, rules}
use Rattle.loops.proofs.Seven.{made_is}
use Rattle.framefile.specs.File.{byte_at, is_on, switches_at}
use Rattle.framefile.proofs.switches_at.Goals as goal

pub returns : goal.returns
unfolding switches_at
returns c = made_is _ _ (λ i. is_on (byte_at c.args.b.now (c.args.at + i))) (λ i y q l k. search rules) _ c.from_fn.ensures.items
