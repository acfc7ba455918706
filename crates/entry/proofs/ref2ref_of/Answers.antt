-- `entry::ref2ref_of` meets its contract. Assumes nothing.
use Rattle.std.proofs.Common.{rules}
use Rattle.loops.proofs.Seven.{mapped_is}
use Rattle.picks.specs.Hints.{no_hint}
use Rattle.entry.specs.Entry.{diff_of, ref2ref_of}
use Rattle.entry.proofs.ref2ref_of.Goals as goal

pub returns : goal.returns
unfolding ref2ref_of diff_of
returns c = mapped_is _ _ (diff_of c.args.h.now.pocs.nbits c.args.a c.args.saved.now.ref_poc) c.args.saved.now.ref_poc (λ i x y q l e k. rw (e no_hint) (search rules)) _ c.map.ensures.items
