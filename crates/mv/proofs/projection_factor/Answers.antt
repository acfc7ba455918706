-- `mv::projection_factor` meets its contract. Assumes nothing.
use Rattle.std.proofs.Common.{◌≡◌, ap, ◌∙◌, ℤ, pos, nat_abs, ◌*ℤ◌, w32, SFits}
use borrow.Author.Rules.{sfits_of}
use Rattle.intops.specs.Choice.{clip_z}
use Rattle.mv.specs.Projection.{reciprocal, projection_factor}
use Rattle.intops.proofs.Signed.{signed, back, fits_within}
use Rattle.mv.proofs.Projection.{reciprocal_le, factor_within}
use Rattle.mv.proofs.projection_factor.Goals.{After-div_mult-m, After-iclip-d}
use Rattle.mv.proofs.projection_factor.Goals as goal

-- the divisor, within 1 and 31
abbrev d : After-iclip-d → ℤ
d c = c.iclip-d.result

d_is : (c : After-iclip-d) → d c ≡ clip_z (pos 1) (pos 31) c.args.den
d_is c = let f = c.ranges.den in simp back at c.iclip-d.ensures

d_fits : (c : After-iclip-d) → SFits w32 (d c)
d_fits c = sfits_of c.iclip-d.type_inv

-- the multiplier fits, and the product is the factor
m_is : (c : After-div_mult-m) → c.div_mult-m.result ≡ reciprocal (nat_abs (clip_z (pos 1) (pos 31) c.args.den))
m_is c = let f = d_fits c.before in simp back at c.div_mult-m.ensures ∙ ap (λ (z : ℤ). reciprocal (nat_abs z)) (d_is c.before)

m_fits : (c : After-div_mult-m) → SFits w32 (pos c.div_mult-m.result)
m_fits c = omega (signed, m_is c, reciprocal_le (nat_abs (clip_z (pos 1) (pos 31) c.args.den)))

is : (c : After-div_mult-m) → c.iclip-n.result *ℤ pos c.div_mult-m.result ≡ projection_factor c.args.num c.args.den
unfolding projection_factor
is c =
    let f = c.ranges.num in
    let n = simp back at c.iclip-n.ensures in
    let m = m_is c in
    cc

fits : (c : After-div_mult-m) → SFits w32 (c.iclip-n.result *ℤ pos c.div_mult-m.result)
fits c =
    let s = c.args in
    rw (is c) (fits_within w32 tt (factor_within s.num s.den))

pub returns : goal.returns
returns c =
    let d = (goal.at.returns c).After-div_mult-m in
    let f : SFits w32 c.iclip-n.result = sfits_of c.iclip-n.type_inv in let g = m_fits d in let h = fits d in
    rw c.from.ensures (simp back (is d))
