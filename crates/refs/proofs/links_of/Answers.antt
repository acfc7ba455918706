-- `refs::links_of` meets its contract. Assumes nothing.
use Rattle.std.proofs.Common.{rules}
use borrow.Author.Tests.{tests}
use Rattle.loops.proofs.Seven.{made_is}
use Rattle.refs.specs.Refs.{links_from, links_of}
use Rattle.refs.proofs.links_of.Goals as goal

pub returns : goal.returns
unfolding links_of
returns c = let h = c.args.pocs.now in made_is _ _ (links_from h) (λ i y q l k. search (rules, tests)) _ c.from_fn.ensures.items
