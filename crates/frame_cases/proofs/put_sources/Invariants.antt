-- `frame_cases::put_sources` meets its contract. Assumes nothing.
use Rattle.std.proofs.Common.{◌≡◌, ◌+◌, ◌*◌, get_or}
use Rattle.loops.specs.Over.{span}
use Rattle.frame_cases.specs.FrameCase.{put_source, blank}
use Rattle.frame_cases.proofs.put_sources.Given as goal

abbrev pub invariant-loop-i : goal.invariant-loop-i
invariant-loop-i l = span (λ i. put_source (get_or l.fn.sources.mfmv i blank) (43 + 32 * i)) l.i 4 l.out ≡ span (λ i. put_source (get_or l.fn.sources.mfmv i blank) (43 + 32 * i)) 0 4 l.initial.out
