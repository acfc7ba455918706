-- Sums of cells and their means, as the field's passes take them (smoothen, fill_gap_proj, fill_gap_traj). Assumes nothing.
use Rattle.std.specs.Prelude.{Bool, cond, ◌+◌, eqb, pos, ◌+ℤ◌}
use Rattle.intops.specs.Choice.{eq_z}
use Rattle.levels.specs.declared.Mv.{Mv}
use Rattle.levels.specs.Vector.{empty}
use Rattle.mv.specs.declared.Sum.{Sum}
use Rattle.mv.specs.Averages.{smoothed, gap_mean, SumOf}

-- is a vector empty (01's term)? Its y alone tells
abbrev pub is_empty : Mv → Bool
is_empty v = eq_z v.y (pos 2097152)

-- of no cells
abbrev pub no_sum : Sum
no_sum = record { y = pos 0; x = pos 0; n = 0 }

-- a cell that is not empty is added
abbrev pub added : Mv → Sum → Sum
added v s = cond (is_empty v) s (record { y = s.y +ℤ v.y; x = s.x +ℤ v.x; n = s.n + 1 })

-- smoothing: the mean of the cells that are not empty, empty where all are
abbrev pub smoothed_of : Sum → Mv
smoothed_of s = cond (eqb s.n 0) empty (record { y = smoothed s.n s.y; x = smoothed s.n s.x })

-- gap filling: the mean of 1 to 4 cells; of one it is the cell itself
abbrev pub gap_of : Sum → Mv
gap_of s = record { y = gap_mean s.n s.y; x = gap_mean s.n s.x }

-- what code asks of a sum: each component may be one of so many of 32 bits
pub record Fair (s : Sum) : Type 0 where
  pub y : SumOf s.n s.y
  pub x : SumOf s.n s.x
