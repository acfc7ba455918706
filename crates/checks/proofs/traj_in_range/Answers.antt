-- `checks::traj_in_range` meets its contract. Assumes nothing.
use Rattle.std.proofs.Common.{◌≡◌, pos, nat_abs, w32, SFits, rules}
use Rattle.std.proofs.Math.Facts.{sfits_lit}
use Rattle.intops.proofs.Signed.{back, eq_plain}
use Rattle.traj.specs.Traj.{traj_in_range}
use Rattle.checks.proofs.traj_in_range.Goals as goal

pub returns : goal.returns
unfolding traj_in_range
returns c =
    let v = c.args.v in
    let f : SFits w32 v.y = search rules in let g : SFits w32 v.x = search rules in
    let y : c.unsigned_abs.result ≡ nat_abs v.y = simp back at c.unsigned_abs.ensures.value in
    let x : c.unsigned_abs-2.result ≡ nat_abs v.x = simp back at c.unsigned_abs-2.ensures.value in
    rw (y, x, c.is_empty.ensures, eq_plain {w = w32} {b = pos 0} g (sfits_lit tt))
