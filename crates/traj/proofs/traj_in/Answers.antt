-- `traj::traj_in` meets its contract. Assumes nothing.
use Rattle.std.proofs.Common.{sym, ap, ◌∙◌, ℕ, ◌+◌, ◌≤◌, arith}
use Rattle.tile.specs.Tiles.{geometry}
use Rattle.tile.proofs.Places.{row_cells_low}
use Rattle.traj.proofs.Rows.{row_end, traj_is}
use Rattle.traj.proofs.traj_in.Goals as goal

pub overflow_add-result : goal.overflow_add-result
overflow_add-result c =
    let a = c.args in let t = geometry a.t.now in let k = a.t.now.sound in let l : a.x ≤ t.stride = omega (arith, c.requires.column) in
    omega (arith, c.row_at.ensures, row_end t k a.n 7 a.y a.x c.requires.slot l, row_cells_low t k)

pub returns : goal.returns
returns c = let a = c.args in ap (λ (i : ℕ). i + a.x) c.row_at.ensures ∙ sym (traj_is (geometry a.t.now) a.n a.y a.x)
