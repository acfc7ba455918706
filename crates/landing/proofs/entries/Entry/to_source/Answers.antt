-- `landing::Entry::to_source` meets its contract. Assumes nothing.
use Rattle.std.proofs.Common.{ap, ◌∙◌, arith, ℤ, pos, ◌-ℤ◌, get_or, w32, SFits, rules}
use Rattle.intops.specs.Bounds.{Within}
use Rattle.intops.proofs.Signed.{back, zero_minus, within_sub, within_pos, fits_within}
use Rattle.mv.specs.Projection.{scale_mv}
use Rattle.project.specs.Project.{to_source}
use Rattle.landing.specs.declared.entries.Entry.{Entry}
use Rattle.landing.proofs.entries.Entry.to_source.Goals as goal

abbrev factor : Entry → ℤ
factor e = get_or e.source.now.ref2sf0 e.reference (pos 0)

low : (e : Entry) → Within 507904 (factor e) → Within 507904 (pos 0 -ℤ factor e)
low e h = within_sub (within_pos {m = 0} {n = 0} (omega arith)) h

pub returns : goal.returns
unfolding to_source
returns c =
    let f : SFits w32 (factor c.args.self.now) = search rules in let g = fits_within w32 tt (low c.args.self.now c.requires.factor) in
    (simp back at c.scaled.ensures) ∙ ap (λ (z : ℤ). (scale_mv c.args.v z).vector) (zero_minus (factor c.args.self.now))
