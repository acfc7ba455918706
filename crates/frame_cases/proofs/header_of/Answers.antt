-- `frame_cases::header_of` meets its contract. Assumes nothing.
use Rattle.std.proofs.Common.{◌≡◌, arith, w8, w64, SFits, rules}
use borrow.Author.Rules.{sfits_of}
use Rattle.intops.proofs.Signed.{back}
use Rattle.cases.specs.Numbers.{is_on, at}
use Rattle.cases.proofs.Elements.{as_u32, as_u8, as_i8}
use Rattle.frame_cases.proofs.FrameCase.{header_is}
use Rattle.frame_cases.proofs.header_of.Goals as goal

pub returns : goal.returns
returns c =
    let n = c.args.n.now in
    let f1 : SFits w64 (at n 1) = search rules in
    let f2 : SFits w64 (at n 2) = search rules in
    let f4 : SFits w64 (at n 4) = search rules in
    let f5 : SFits w64 (at n 5) = search rules in
    let f6 : SFits w64 (at n 6) = search rules in
    let f7 : SFits w64 (at n 7) = search rules in
    let f8 : SFits w64 (at n 8) = search rules in
    let f9 : SFits w64 (at n 9) = search rules in
    let f10 : SFits w64 (at n 10) = search rules in
    let f11 : SFits w64 (at n 11) = search rules in
    let g10 : SFits w8 c.number-tip0.result = sfits_of c.number-tip0.type_inv in
    let g11 : SFits w8 c.number-tip1.result = sfits_of c.number-tip1.type_inv in
    let e1 = as_u32 (simp back at c.number-width.ensures) (c.requires.fits.words 1 (omega arith) (omega arith)) in
    let e2 = as_u32 (simp back at c.number-height.ensures) (c.requires.fits.words 2 (omega arith) (omega arith)) in
    let e5 = as_u8 (simp back at c.number-sb128.ensures) (c.requires.fits.codes 5 (omega arith) (omega arith)) in
    let e6 = as_u8 (simp back at c.number-tmvp_sample_step.ensures) (c.requires.fits.codes 6 (omega arith) (omega arith)) in
    let e9 = as_u8 (simp back at c.number-tip_frame_mode.ensures) (c.requires.fits.mode 9 (omega arith) (omega arith)) in
    let e10 = as_i8 (simp back at c.number-tip0.ensures) (c.requires.fits.pair 10 (omega arith) (omega arith)) in
    let e11 = as_i8 (simp back at c.number-tip1.ensures) (c.requires.fits.pair 11 (omega arith) (omega arith)) in
    let e4 : c.is_on-tip.result ≡ is_on (at n 4) = simp back at c.is_on-tip.ensures in
    let e7 : c.is_on-use_ref_frame_mvs.result ≡ is_on (at n 7) = simp back at c.is_on-use_ref_frame_mvs.ensures in
    let e8 : c.is_on-has_bothside_refs.result ≡ is_on (at n 8) = simp back at c.is_on-has_bothside_refs.ensures in
    simp back (header_is n e1 e2 e5 e6 e4 e7 e8 e9 e10 e11 c.switches_at-rp_ref.ensures c.pocs_of-pocs.ensures)
