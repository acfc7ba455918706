-- Rows of a frame of at most 256 by 256 cells lie within the program's buffers. Assumes nothing.
use Rattle.std.proofs.Common.{ℕ, ◌+◌, ◌*◌, ◌≤◌, ◌<◌, mul-le-mul, arith}
use Rattle.loops.proofs.Turns.{row_within}

pub cells_low : (h stride : ℕ) → h ≤ 256 → stride ≤ 256 → h * stride ≤ 65536
cells_low h stride a b = mul-le-mul a b

pub row_low : (r h stride : ℕ) → r < h → h ≤ 256 → stride ≤ 256 → r * stride + stride ≤ 65536
row_low r h stride k a b = omega (arith, row_within r h stride k, cells_low h stride a b)
