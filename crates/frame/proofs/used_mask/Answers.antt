-- `frame::used_mask` meets its contract. Assumes nothing.
use Rattle.std.proofs.Common.{◌≡◌, refl, ◌+◌, ◌∙◌, ap, arith}
use Rattle.refs.proofs.Masks.{pow_small}
use Rattle.frame.proofs.Mask.{bits, bits_low, bit_is, next, mask_is}
use Rattle.frame.proofs.used_mask.Goals as goal

pub loop-k-init : goal.loop-k-init
unfolding bits
loop-k-init c = refl

pub overflow_add-mask : goal.overflow_add-mask
overflow_add-mask c =
    let l = c.loop-k in let t = c.args.taken.now in
    rw (c.used_bit.ensures.value, bit_is t l.k c.loop-k-test.true, l.invariant, ← next t l.k) (omega (arith, bits_low t (l.k + 1), pow_small (l.k + 1) (omega arith)))

pub loop-k-preserved : goal.loop-k-preserved
loop-k-preserved c =
    let l = c.loop-k in let t = c.args.taken.now in
    rw (c.used_bit.ensures.value, bit_is t l.k c.loop-k-test.true, l.invariant, next t l.k)

pub returns : goal.returns
returns c =
    let l = c.loop-k in let t = c.args.taken.now in
    let e : l.k ≡ 7 = omega (arith, c.loop-k-test.false) in
    l.invariant ∙ ap (bits t) e ∙ mask_is t
