-- `framefile::put_planes` meets its contract. Assumes nothing.
use Rattle.std.proofs.Common.{refl, rules}
use Rattle.loops.proofs.Turns.{turned, ended}
use Rattle.framefile.specs.File.{put_present, put_planes}
use Rattle.framefile.proofs.put_planes.Goals as goal

pub loop-k-init : goal.loop-k-init
loop-k-init c = (refl, refl)

pub loop-k-preserved : goal.loop-k-preserved
loop-k-preserved c =
    let a = c.args in
    let l = c.loop-k in
    (search rules, turned (put_present a.b.now a.present a.n a.wide a.high a.stride) 7 l.k l.planes _ _ c.loop-k-test.true c.put_present.ensures l.invariant.1)

pub returns : goal.returns
unfolding put_planes
returns c = ended _ _ _ _ _ c.loop-k-test.false c.loop-k.invariant.1
