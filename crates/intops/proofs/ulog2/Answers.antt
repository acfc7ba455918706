-- `intops::ulog2` meets its contract. Assumes nothing.
use Rattle.std.proofs.Common.{arith, sym, ◌<◌, ◌*◌, ◌^◌, suc, ℕ}
use native.Mathlib.Numerals.{unary_clauses}
use Rattle.intops.proofs.Bits.{highest_is}
use Rattle.intops.specs.Bits.{highest_bit}
use Rattle.intops.proofs.ulog2.Goals as goal

-- twice a power is the next
next : (v k : ℕ) → v < 2 * 2 ^ k → v < 2 ^ suc k
next v k h = simp unary_clauses (omega (arith, h))

pub returns : goal.returns
unfolding highest_bit
returns c = sym (highest_is 31 c.ilog2.result c.args.v (omega arith) c.ilog2.ensures.power_le (next c.args.v c.ilog2.result c.ilog2.ensures.next_power_gt))
