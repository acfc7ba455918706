-- How far a vector moves a cell: the numbers on the way fit their types. Assumes nothing.
use Rattle.std.proofs.Common.{◌≡◌, refl, ℕ, ◌<◌, ℤ, pos, negsuc, ◌+ℤ◌, w32, SFits}
use lib.Signed.{quot_z}
use Rattle.intops.proofs.Signed.{signed, signed!, ud, ud_add, ud_quot}
use Rattle.tile.specs.Layout.{cells_of, moved}

pub quot_cells : (z : ℤ) → quot_z z (pos 64) ≡ cells_of z
unfolding cells_of
quot_cells (pos n) = refl
quot_cells (negsuc n) = refl

pub quot_fits : (z : ℤ) → SFits w32 z → SFits w32 (quot_z z (pos 64))
quot_fits z f = omega (signed!, ud z, ud_quot z 63)

pub moved_low : (x : ℕ) (d : ℤ) → SFits w32 d → x < 4294967296 → moved x d < 8589934592
moved_low x d f h = omega (signed, ud d, ud_add (pos x) d, ud (pos x +ℤ d))
