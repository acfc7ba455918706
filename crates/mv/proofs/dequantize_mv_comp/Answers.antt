-- `mv::dequantize_mv_comp` meets its contract. Assumes nothing.
use Rattle.std.proofs.Common.{◌≡◌, ap, ◌∙◌, ◌<◌, nat_abs}
use Rattle.mv.specs.Packing.{unpack_mag}
use Rattle.intops.proofs.Signed.{signed, back}
use Rattle.mv.proofs.Packing.{least}
use Rattle.mv.proofs.dequantize_mv_comp.Goals.{After-dequantize_abs, After-unsigned_abs}
use Rattle.mv.proofs.dequantize_mv_comp.Goals as goal

abs_is : (c : After-unsigned_abs) → c.unsigned_abs.result ≡ nat_abs c.args.v
abs_is c = let f = c.ranges.v in simp back at c.unsigned_abs.ensures

mag_is : (c : After-dequantize_abs) → c.dequantize_abs.result ≡ unpack_mag (nat_abs c.args.v)
mag_is c = c.dequantize_abs.ensures ∙ ap unpack_mag (abs_is c.before)

mag_small : (c : After-dequantize_abs) → c.dequantize_abs.result < 2048
mag_small c = rw (mag_is c) (least (nat_abs c.args.v) c.requires).below

pub apply_sign-requires : goal.apply_sign-requires
apply_sign-requires c = omega (signed, mag_small c)
