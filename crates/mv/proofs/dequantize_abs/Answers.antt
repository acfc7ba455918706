-- `mv::dequantize_abs` meets its contract. Assumes nothing.
use Rattle.std.proofs.Common.{arith, ◌≡◌, ◌-◌, ◌*◌, ◌/◌}
use Rattle.intops.proofs.Bits.{shl_fits}
use Rattle.mv.proofs.Packing.{least_of, unpack_is, least_lt}
use Rattle.mv.proofs.dequantize_abs.Goals.{After-umax-b}
use Rattle.mv.proofs.dequantize_abs.Goals as goal

b_is : (c : After-umax-b) → c.umax-b.result - 1 ≡ c.args.code / 16 - 1
b_is c = omega (arith, c.umax-b.ensures)

pub returns : goal.returns
unfolding least_of
returns c =
    let k = c.args.code in let h = c.requires in
    rw (b_is c, unpack_is k h) (shl_fits 4294967296 (k - 16 * (k / 16 - 1)) (k / 16 - 1) (omega (arith, least_lt k h)))
