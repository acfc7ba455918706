-- `mv::quantize_mv_comp` meets its contract. Assumes nothing.
use Rattle.std.proofs.Common.{arith, ◌≡◌, sym, ap, ◌∙◌, ◌+◌, ◌-◌}
use Rattle.intops.specs.Bits.{highest_bit}
use Rattle.mv.proofs.Packing.{Shift, shift, quot_lt}
use Rattle.mv.proofs.quantize_mv_comp.Goals.{After-ulog2-b}
use Rattle.mv.proofs.quantize_mv_comp.Goals as goal

the : (c : After-ulog2-b) → Shift c.args.absv
the c = shift c.args.absv c.requires

log_is : (c : After-ulog2-b) → c.ulog2-b.result ≡ 4 + (the c).b
log_is c = c.ulog2-b.ensures ∙ ap highest_bit c.umax.ensures ∙ (the c).is

b_is : (c : After-ulog2-b) → c.ulog2-b.result - 4 ≡ (the c).b
b_is c = omega (arith, log_is c)

pub overflow_sub-b : goal.overflow_sub-b
overflow_sub-b c = omega (arith, log_is c)

pub overflow_shr-result : goal.overflow_shr-result
overflow_shr-result c = omega (arith, b_is c, (the c).small)

pub overflow_mul-result : goal.overflow_mul-result
overflow_mul-result c = omega (arith, b_is c, (the c).small)

pub overflow_add-result : goal.overflow_add-result
overflow_add-result c = let t = the c in rw (b_is c) (omega (arith, quot_lt c.args.absv t, t.small))

pub returns : goal.returns
returns c = rw (b_is c) (sym (the c).code)
