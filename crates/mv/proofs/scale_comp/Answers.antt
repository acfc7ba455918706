-- `mv::scale_comp` meets its contract. Assumes nothing.
use Rattle.std.proofs.Common.{rules, ◌≡◌, ◌∙◌, ap, ◌*◌, ◌^◌, ◌*ℤ◌, w32, w64, SFits}
use Rattle.intops.specs.Bounds.{Within}
use Rattle.intops.specs.Choice.{clip_z}
use Rattle.mv.specs.Projection.{scaled_by}
use Rattle.intops.proofs.Signed.{back, within_fits, within_mul, fits_within}
use Rattle.mv.proofs.scale_comp.Goals.{Start}
use Rattle.mv.proofs.scale_comp.Goals as goal

-- the product of any component and a factor in range
p_in : (s : Start) → Within (2 ^ 31 * 507904) (s.args.v *ℤ s.args.sf)
p_in s = within_mul (within_fits w32 s.ranges.v) s.requires

pub returns : goal.returns
unfolding scaled_by
returns c =
    let f = c.ranges.v in let g = c.ranges.sf in let h = fits_within w64 tt (p_in (goal.at.returns c).Start) in let l = c.ranges.min in let u = c.ranges.max in
    let k : SFits w64 c.round_shift.result = search rules in
    let r : SFits w32 c.iclip64to32.result = search rules in
    let a : c.from.result ≡ c.args.v = simp back at c.from.ensures in
    let b : c.from-2.result ≡ c.args.sf = simp back at c.from-2.ensures in
    simp back (simp back at c.iclip64to32.ensures ∙ ap (clip_z c.args.min c.args.max) (simp back at (rw (a, b) at c.round_shift.ensures)))
