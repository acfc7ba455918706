-- `landing::Entry::takes` meets its contract. Assumes nothing.
use Rattle.std.proofs.Common.{negsuc, w8, SFits, rules}
use Rattle.std.proofs.Math.Facts.{sfits_lit}
use Rattle.intops.proofs.Signed.{eq_plain}
use Rattle.project.specs.Project.{ref2idx, takes}
use Rattle.landing.proofs.entries.Entry.takes.Goals as goal

pub returns : goal.returns
unfolding takes
returns c =
    let f : SFits w8 c.args.self.now.source.now.tgt = search rules in
    let g : SFits w8 (ref2idx c.args.self.now.source.now c.args.self.now.reference) = search rules in
    rw (c.is_empty.ensures, c.distance-dist.ensures) (rw (eq_plain {w = w8} {b = negsuc 0} f (sfits_lit tt), eq_plain {w = w8} g f))
