-- `framefile::put_row` meets its contract. Assumes nothing.
use Rattle.std.proofs.Common.{refl, ap, ◌+◌, length, set, length-set, w8, SFits, rules}
use Rattle.intops.proofs.Signed.{back}
use Rattle.loops.proofs.Turns.{turned, ended}
use Rattle.framefile.specs.File.{put_byte, put_row}
use Rattle.framefile.proofs.put_row.Goals as goal

pub loop-i-init : goal.loop-i-init
loop-i-init c = (refl, refl)

pub loop-i-preserved : goal.loop-i-preserved
loop-i-preserved c =
    let l = c.loop-i in
    let f : SFits w8 c.signed_byte.result = search rules in
    (simp length-set l.invariant.0, simp back (turned (put_byte c.args.line.now c.args.at) (length c.args.line.now) l.i l.planes _ _ c.loop-i-test.true (ap (set l.planes (c.args.at + l.i)) c.signed_byte.ensures) l.invariant.1))

pub returns : goal.returns
unfolding put_row
returns c = ended _ _ _ _ _ c.loop-i-test.false c.loop-i.invariant.1
