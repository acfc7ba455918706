-- Where a saved block ends. Assumes nothing.
use Rattle.std.proofs.Common.{sym, ℕ, ◌+◌, ◌*◌, ◌≤◌, ◌<◌, mul_assoc, arith}
use Rattle.loops.proofs.Turns.{row_within, cell_within}
use Rattle.tile.specs.Geometry.{Geometry}

-- rows of a slot's plane end within the seven planes
pub line_within : (t : Geometry) (slot y : ℕ) → slot < 7 → y < t.high
    → (slot * t.high + y < 7 * t.high) × ((slot * t.high + y) * t.stride + t.stride ≤ 7 * (t.high * t.stride))
line_within t slot y l m =
    let a : slot * t.high + y < 7 * t.high = cell_within slot 7 t.high y t.high l m (omega arith) in
    (a, rw (sym (mul_assoc 7 t.high t.stride)) (row_within (slot * t.high + y) (7 * t.high) t.stride a))
