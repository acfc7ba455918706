-- What the contracts of the code speak of besides the definitions. Assumes nothing.
use Rattle.std.specs.Prelude.{not, cond, ◌&&◌, ℕ, ◌+◌, ◌-◌, ◌*◌, ℤ, negsuc, nat_abs, Option, None, Some}
use Rattle.intops.specs.Choice.{eq_z}
use Rattle.levels.specs.declared.QMv.{QMv}
use Rattle.mv.specs.Sums.{is_empty}
use Rattle.mv.specs.Packing.{unpacked}
use Rattle.tile.specs.Geometry.{Geometry}
use Rattle.saved.specs.declared.Block.{Block}

-- where the block at (y, x) begins in the part of its plane from the tile's first row
unfoldable pub part_at : Geometry → ℕ → ℕ → ℕ
part_at t y x = 6 * ((y - t.top) * t.stride + x)

-- of reference r and the packed vector q: what `sample` goes on with
abbrev pub saved_of : ℤ → QMv → Option Block
saved_of r q = cond (not (eq_z r (negsuc 0)) && not (is_empty (unpacked q).vector)) (Some (record { reference = nat_abs r; mv = (unpacked q).vector })) None
