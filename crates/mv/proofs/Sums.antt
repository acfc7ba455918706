-- The laws of sums of cells. Assumes nothing.
use Rattle.std.proofs.Common.{◌≡◌, false}
use Rattle.intops.proofs.Signed.{none_plus}
use Rattle.levels.specs.declared.Mv.{Mv}
use Rattle.mv.specs.Sums.{is_empty, no_sum, added, gap_of}
use Rattle.mv.proofs.Averages.{gap_alone}

-- gap filling from a single cell gives the cell
pub gap_of_one : (v : Mv) → is_empty v ≡ false → gap_of (added v no_sum) ≡ v
gap_of_one v e = rw (e, none_plus v.y, none_plus v.x, gap_alone v.y, gap_alone v.x)
