-- `refs::links_from` meets its contract. Assumes nothing.
use Rattle.std.proofs.Common.{rules, cond, ltb, None}
use borrow.Author.Tests.{tests}
use Rattle.loops.proofs.Seven.{made_is}
use Rattle.refs.specs.Refs.{link_of, links_from}
use Rattle.refs.proofs.links_from.Goals as goal

pub returns : goal.returns
unfolding links_from
returns c = let h = c.args.pocs.now in made_is _ _ (λ n. cond (ltb c.args.i h.n_refs) (link_of h c.args.i n) None) (λ i y q l k. search (rules, tests)) _ c.from_fn.ensures.items
