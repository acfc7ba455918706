-- `refs::all_abs_diffs` meets its contract. Assumes nothing.
use Rattle.std.proofs.Common.{rules, cond, ltb, nat_abs}
use borrow.Author.Tests.{tests}
use Rattle.loops.proofs.Seven.{made_is}
use Rattle.refs.specs.Refs.{clipped, abs_diffs}
use Rattle.refs.proofs.all_abs_diffs.Goals as goal

pub returns : goal.returns
unfolding abs_diffs
returns c = let h = c.args.h.now.pocs in made_is _ _ (λ i. cond (ltb i h.n_refs) (nat_abs (clipped h i)) 0) (λ i y q l k. search (rules, tests)) _ c.from_fn.ensures.items
