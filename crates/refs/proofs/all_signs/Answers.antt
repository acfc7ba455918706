-- `refs::all_signs` meets its contract. Assumes nothing.
use Rattle.std.proofs.Common.{rules, cond, ltb, false}
use borrow.Author.Tests.{tests}
use Rattle.loops.proofs.Seven.{made_is}
use Rattle.refs.specs.Refs.{is_earlier, signs}
use Rattle.refs.proofs.all_signs.Goals as goal

pub returns : goal.returns
unfolding signs
returns c = let h = c.args.h.now.pocs in made_is _ _ (λ i. cond (ltb i h.n_refs) (is_earlier h i) false) (λ i y q l k. search (rules, tests)) _ c.from_fn.ensures.items
