-- `entry::factors` meets its contract. Assumes nothing.
use Rattle.std.proofs.Common.{rules, pos}
use Rattle.loops.proofs.Seven.{mapped_is}
use Rattle.entry.specs.Entry.{factor_of, factors_of}
use Rattle.entry.proofs.factors.Goals as goal

pub returns : goal.returns
unfolding factors_of
returns c = mapped_is _ _ (factor_of c.args.cur c.args.ref2ref.now c.args.rest) c.args.ref2ref.now (λ i x y q l e k. rw (e (pos 0)) (search rules)) _ c.map.ensures.items
