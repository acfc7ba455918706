-- `entry::ref2idx_of` meets its contract. Assumes nothing.
use Rattle.std.proofs.Common.{rules, get_or}
use Rattle.loops.proofs.Seven.{mapped_is}
use Rattle.picks.specs.Hints.{no_hint}
use Rattle.entry.specs.Entry.{found_slot, ref2idx_of}
use Rattle.entry.proofs.ref2idx_of.Goals as goal

pub returns : goal.returns
unfolding ref2idx_of
returns c = mapped_is _ _ (λ m. found_slot c.args.hints.now (get_or c.args.saved.now.ref_poc m no_hint)) c.args.saved.now.ref_poc (λ i x y q l e k. rw (e no_hint) (search rules)) _ c.map.ensures.items
