-- `frame_cases::pocs_of` meets its contract. Assumes nothing.
use Rattle.std.proofs.Common.{arith, w64, SFits, rules}
use Rattle.intops.proofs.Signed.{back}
use Rattle.cases.specs.Numbers.{at}
use Rattle.cases.proofs.Elements.{as_u32, as_u8, as_usize}
use Rattle.cases.proofs.Verdicts.{roomy}
use Rattle.frame_cases.proofs.FrameCase.{pocs_is}
use Rattle.frame_cases.proofs.pocs_of.Goals as goal

pub returns : goal.returns
returns c =
    let n = c.args.n.now in
    let f0 : SFits w64 (at n 0) = search rules in
    let f3 : SFits w64 (at n 3) = search rules in
    let f12 : SFits w64 (at n 12) = search rules in
    let e0 = as_u32 (simp back at c.number-nbits.ensures) (c.requires.fits.words 0 (omega arith) (omega arith)) in
    let w3 = c.requires.fits.words 3 (omega arith) (omega arith) in
    let e3 = as_usize (simp back at c.number-n_refs.ensures) (roomy (omega arith) w3) in
    let e12 = as_u8 (simp back at c.number.ensures) (c.requires.fits.hints 12 (omega arith) (omega arith)) in
    pocs_is n e0 e12 e3 (c.hints_at-ref_poc.ensures (λ j h l. c.requires.fits.hints j (omega arith) (omega arith))) (c.all_saved-saved.ensures c.requires.fits.hints)
