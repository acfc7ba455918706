-- `checks::source_fine` meets its contract. Assumes nothing.
use Rattle.std.proofs.Common.{◌≡◌, false, negsuc, w8, SFits, rules}
use Rattle.std.proofs.Math.Facts.{sfits_lit}
use Rattle.intops.specs.Choice.{eq_z}
use Rattle.intops.proofs.Signed.{eq_no}
use Rattle.project.specs.Tested.{row_fine}
use Rattle.checks.proofs.source_fine.Goals as goal

pub returns : goal.returns
unfolding row_fine
returns c =
    let f : SFits w8 c.args.s.now.ref2cur = search rules in
    let on : eq_z c.args.s.now.ref2cur (negsuc 31) ≡ false = eq_no {w = w8} {b = negsuc 31} f (sfits_lit tt) c.if-s.false in
    rw (on, c.if-not-present.false-raw, ← c.index.ensures, ← c.from.ensures) c.row_fine.ensures
