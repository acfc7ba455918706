-- `frame_cases::put_sources` meets its contract. Assumes nothing.
use Rattle.std.proofs.Common.{◌+◌, ◌*◌, get_or}
use Rattle.loops.proofs.Turns.{turned, ended}
use Rattle.frame_cases.specs.FrameCase.{put_source, put_sources, blank}
use Rattle.frame_cases.proofs.put_sources.Goals as goal

pub loop-i-preserved : goal.loop-i-preserved
loop-i-preserved c =
    let l = c.loop-i in
    turned (λ i. put_source (get_or c.args.sources.mfmv i blank) (43 + 32 * i)) 4 l.i l.out _ _ c.loop-i-test.true c.put_source.ensures l.invariant

pub returns : goal.returns
unfolding put_sources
returns c = ended _ _ _ _ _ c.loop-i-test.false c.loop-i.invariant
