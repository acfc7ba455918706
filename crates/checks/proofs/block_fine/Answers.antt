-- `checks::block_fine` meets its contract. Assumes nothing.
use Rattle.std.proofs.Common.{◌+◌, ◌*◌, ℤ, pos, negsuc, get_or, w8, SFits, rules}
use Rattle.std.proofs.Math.Facts.{sfits_lit}
use Rattle.intops.proofs.Signed.{back, eq_plain}
use Rattle.project.specs.Tested.{block_fine}
use Rattle.checks.proofs.Tests.{le_not, same_tests}
use Rattle.checks.proofs.block_fine.Goals as goal

pub returns : goal.returns
unfolding block_fine
returns c =
    let a = c.args in
    let r : ℤ = get_or a.planes.now (a.at + 4 + a.dir) (pos 0) in let y : ℤ = get_or a.planes.now (a.at + 2 * a.dir) (pos 0) in let x : ℤ = get_or a.planes.now (a.at + 2 * a.dir + 1) (pos 0) in
    let f : SFits w8 r = search rules in let g : SFits w8 y = search rules in let h : SFits w8 x = search rules in
    rw (eq_plain {w = w8} {b = negsuc 0} f (sfits_lit tt), eq_plain {w = w8} {b = negsuc 127} g (sfits_lit tt), eq_plain {w = w8} {b = negsuc 127} h (sfits_lit tt)) (simp back (rw (le_not (pos 0) r, le_not r (pos 6), same_tests)))
