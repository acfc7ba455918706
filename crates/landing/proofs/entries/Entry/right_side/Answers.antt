-- `landing::Entry::right_side` meets its contract. Assumes nothing.
use Rattle.std.proofs.Common.{pos, w8, SFits, rules}
use Rattle.std.proofs.Math.Facts.{sfits_lit}
use Rattle.intops.proofs.Signed.{back, eq_plain}
use Rattle.project.specs.Project.{ref2ref, right_side}
use Rattle.landing.proofs.entries.Entry.right_side.Goals as goal

pub returns : goal.returns
unfolding right_side
returns c =
    let f : SFits w8 (ref2ref c.args.self.now.source.now c.args.self.now.reference) = search rules in
    rw (eq_plain {w = w8} {b = pos 0} f (sfits_lit tt)) (simp back)
