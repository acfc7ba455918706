-- `landing::back_cells` meets its contract. Assumes nothing.
use Rattle.std.proofs.Common.{◌≡◌, suc, ◌/◌, ℤ, pos, negsuc, neg_ℤ, ◌-ℤ◌, w32, SFits, rules}
use Rattle.intops.proofs.Signed.{signed!, back, ud_minus, ud_neg, zero_minus}
use Rattle.tile.specs.Layout.{cells_of}
use Rattle.landing.proofs.back_cells.Goals.{After-cells_of}
use Rattle.landing.proofs.back_cells.Goals as goal

is : (c : After-cells_of) → c.cells_of.result ≡ cells_of c.args.v
is c = let f = c.ranges.v in simp back at c.cells_of.ensures

small : (z : ℤ) → SFits w32 z → SFits w32 (pos 0 -ℤ cells_of z)
unfolding cells_of
small (pos n) f = omega (signed!, ud_minus (pos 0) (pos (n / 64)))
small (negsuc n) f = omega (signed!, ud_minus (pos 0) (neg_ℤ (pos (suc n / 64))), ud_neg (pos (suc n / 64)))

pub overflow_sub-result : goal.overflow_sub-result
overflow_sub-result c = let f = c.ranges.v in let g : SFits w32 c.cells_of.result = search rules in simp back (rw (is c) (small c.args.v f))

pub returns : goal.returns
returns c = let f = c.ranges.v in let g : SFits w32 c.cells_of.result = search rules in let h : SFits w32 (pos 0 -ℤ c.cells_of.result) = rw (is c) (small c.args.v f) in simp back (rw (is c) (zero_minus (cells_of c.args.v)))
