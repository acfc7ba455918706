-- `landing::LinkedEntry::to_reference` meets its contract. Assumes nothing.
use Rattle.std.proofs.Common.{pos, get_or, w32, SFits, rules}
use Rattle.intops.proofs.Signed.{back}
use Rattle.project.specs.Project.{to_reference}
use Rattle.landing.proofs.entries.LinkedEntry.to_reference.Goals as goal

pub returns : goal.returns
unfolding to_reference
returns c = let e = c.args.self.now.entry in let f : SFits w32 (get_or e.source.now.ref2sf1 e.reference (pos 0)) = search rules in simp back at c.scaled.ensures
