-- `framefile::all_saved` meets its contract. Assumes nothing.
use Rattle.std.proofs.Common.{◌+◌, ◌*◌, rules}
use Rattle.loops.proofs.Seven.{made_is}
use Rattle.framefile.specs.File.{saved_at, all_saved}
use Rattle.framefile.proofs.all_saved.Goals as goal

pub returns : goal.returns
unfolding all_saved
returns c = made_is _ _ (λ i. saved_at c.args.b.now (37 + 8 * i)) (λ i y q l k. search rules) _ c.from_fn.ensures.items
