-- `mv::quantize_signed` meets its contract. Assumes nothing.
use Rattle.std.proofs.Common.{rules, ◌≡◌, ap, ◌∙◌, ◌<◌, nat_abs, w8, w32, SFits}
use Rattle.intops.specs.Choice.{with_sign}
use Rattle.mv.specs.Packing.{pack_code}
use Rattle.intops.proofs.Signed.{signed, back, ud, abs_sign}
use Rattle.mv.proofs.Packing.{code_lt}
use Rattle.mv.proofs.quantize_signed.Goals.{After-apply_sign, After-quantize_mv_comp, After-unsigned_abs}
use Rattle.mv.proofs.quantize_signed.Goals as goal

abs_is : (c : After-unsigned_abs) → c.unsigned_abs.result ≡ nat_abs c.args.v
abs_is c = let f = c.ranges.v in simp back at c.unsigned_abs.ensures

code_is : (c : After-quantize_mv_comp) → c.quantize_mv_comp.result ≡ pack_code (nat_abs c.args.v)
code_is c = c.quantize_mv_comp.ensures ∙ ap pack_code (abs_is c.before)

code_small : (c : After-quantize_mv_comp) → c.quantize_mv_comp.result < 128
code_small c = rw (code_is c) (code_lt (nat_abs c.args.v) c.requires)

signed_is : (c : After-apply_sign) → let v = c.args.v in c.apply_sign.result ≡ with_sign v (pack_code (nat_abs v))
signed_is c =
    let f = c.ranges.v in
    simp back at c.apply_sign.ensures ∙ ap (with_sign c.args.v) (code_is c.before)

fits : (c : After-apply_sign) → SFits w8 c.apply_sign.result
fits c =
    let v = c.args.v in let n = pack_code (nat_abs v) in
    rw (signed_is c) (omega (signed, ud (with_sign v n), abs_sign v n, code_lt (nat_abs v) c.requires))

pub apply_sign-requires : goal.apply_sign-requires
apply_sign-requires c = omega (signed, code_small c)

pub overflow_cast-result : goal.overflow_cast-result
overflow_cast-result c = let f : SFits w32 c.apply_sign.result = search rules in simp back (fits c)

pub returns : goal.returns
returns c = let f : SFits w32 c.apply_sign.result = search rules in let g = fits c in simp back (signed_is c)
