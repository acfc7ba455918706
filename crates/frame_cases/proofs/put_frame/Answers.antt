-- `frame_cases::put_frame` meets its contract. Assumes nothing.
use Rattle.std.proofs.Common.{w64, SFits}
use borrow.Author.Rules.{sfits_of}
use Rattle.intops.proofs.Signed.{back}
use Rattle.cases.specs.Numbers.{at}
use Rattle.frame_cases.specs.FrameCase.{bits, bytes}
use Rattle.frame_cases.proofs.FrameCase.{frame_is, of_bools, of_bytes, of_signed}
use Rattle.frame_cases.proofs.put_frame.Goals as goal

pub returns : goal.returns
returns c =
    let f = c.args.f in
    let g0 : SFits w64 c.from.result = sfits_of c.from.type_inv in
    let g1 : SFits w64 c.from-2.result = sfits_of c.from-2.type_inv in
    let g2 : SFits w64 c.of_u64.result = sfits_of c.of_u64.type_inv in
    frame_is c.args.f c.args.out.now c.put_head.ensures (c.put_seven.ensures (bits f.rp_ref) (of_bools f.rp_ref)) (c.put_seven-2.ensures (bits f.ref_sign) (of_bools f.ref_sign)) (c.put_seven-3.ensures (at f.pocdiff) (of_signed f.pocdiff)) (c.put_seven-4.ensures (bytes f.abspocdiff) (of_bytes f.abspocdiff)) c.from.ensures c.from-2.ensures c.of_u64.ensures (simp back at c.put_sources.ensures)
