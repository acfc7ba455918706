-- `field::project` meets its contract. Assumes nothing.
use Rattle.std.proofs.Common.{rules, ◌≡◌, ap, ◌∙◌, ℤ, pos, negsuc, w32, SFits}
use Rattle.intops.proofs.Signed.{back}
use Rattle.mv.specs.Projection.{projection_factor, scaled_vector}
use Rattle.mv.proofs.Projection.{factor_within}
use Rattle.field.proofs.project.Goals.{After-projection_factor-sf}
use Rattle.field.proofs.project.Goals as goal

factor_is : (c : After-projection_factor-sf) → c.projection_factor-sf.result ≡ projection_factor c.args.num c.args.den
factor_is c = let f = c.ranges.num in let g = c.ranges.den in simp back at c.projection_factor-sf.ensures

pub scale_vector-requires : goal.scale_vector-requires
scale_vector-requires c =
    let g : SFits w32 c.projection_factor-sf.result = search rules in
    simp back (rw (factor_is c) (factor_within c.args.num c.args.den))

pub returns : goal.returns
returns c =
    let g : SFits w32 c.projection_factor-sf.result = search rules in
    let e = simp back at c.scale_vector.ensures in
    e ∙ ap (λ (z : ℤ). scaled_vector z (negsuc 2046) (pos 2047) c.args.v) (factor_is (goal.at.returns c).After-projection_factor-sf)
