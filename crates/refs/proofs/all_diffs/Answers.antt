-- `refs::all_diffs` meets its contract. Assumes nothing.
use Rattle.std.proofs.Common.{rules, cond, ltb, pos}
use borrow.Author.Tests.{tests}
use Rattle.loops.proofs.Seven.{made_is}
use Rattle.refs.specs.Refs.{clipped, diffs}
use Rattle.refs.proofs.all_diffs.Goals as goal

pub returns : goal.returns
unfolding diffs
returns c = let h = c.args.h.now.pocs in made_is _ _ (λ i. cond (ltb i h.n_refs) (clipped h i) (pos 0)) (λ i y q l k. search (rules, tests)) _ c.from_fn.ensures.items
