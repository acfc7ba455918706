-- `load_cases::setup::setup_of` meets its contract. Assumes nothing.
use Rattle.std.proofs.Common.{◌≡◌, arith, w8, w64, SFits, rules}
use borrow.Author.Rules.{sfits_of}
use Rattle.intops.proofs.Signed.{back}
use Rattle.cases.specs.Numbers.{at, is_on}
use Rattle.cases.proofs.Elements.{as_i8, as_u32, as_u8, as_usize}
use Rattle.load_cases.proofs.SetupParts.{i8s_is, u8s_is, setup_is}
use Rattle.load_cases.proofs.setup.setup_of.Goals as goal

pub returns : goal.returns
returns c =
    let n = c.args.n.now in
    let f0 : SFits w64 (at n 0) = search rules in
    let f1 : SFits w64 (at n 1) = search rules in
    let f2 : SFits w64 (at n 2) = search rules in
    let f3 : SFits w64 (at n 3) = search rules in
    let f4 : SFits w64 (at n 4) = search rules in
    let f5 : SFits w64 (at n 5) = search rules in
    let f6 : SFits w64 (at n 6) = search rules in
    let f7 : SFits w64 (at n 7) = search rules in
    let f11 : SFits w64 (at n 11) = search rules in
    let g6 : SFits w8 c.number-tip0.result = sfits_of c.number-tip0.type_inv in
    let g7 : SFits w8 c.number-tip1.result = sfits_of c.number-tip1.type_inv in
    let e0 = simp back at c.number-width.ensures in
    let e1 = simp back at c.number-height.ensures in
    let e2 = simp back at c.number-n_refs.ensures in
    let e3 = simp back at c.number-sb128.ensures in
    let e4 = simp back at c.number-tmvp_sample_step.ensures in
    let e5 = simp back at c.number-tip_frame_mode.ensures in
    let e6 = simp back at c.number-tip0.ensures in
    let e7 = simp back at c.number-tip1.ensures in
    let e11 = simp back at c.number-ref_flip.ensures in
    let f41 : SFits w64 (at n 41) = search rules in
    let e41 : c.is_on-use_ref_frame_mvs.result ≡ is_on (at n 41) = simp back at c.is_on-use_ref_frame_mvs.ensures in
    λ b. simp back (setup_is n (as_u32 e0 (b.size 0 (omega arith) (omega arith))) (as_u32 e1 (b.size 1 (omega arith) (omega arith))) (as_usize e2 (b.refs 2 (omega arith) (omega arith)))
    (as_u8 e3 (b.codes 3 (omega arith) (omega arith))) (as_u8 e4 (b.codes 4 (omega arith) (omega arith))) (as_u8 e5 (b.codes 5 (omega arith) (omega arith)))
    (as_i8 e6 (b.pair 6 (omega arith) (omega arith))) (as_i8 e7 (b.pair 7 (omega arith) (omega arith))) (c.tip_of-tip.ensures b.tip) (as_usize e11 (b.flip 11 (omega arith) (omega arith)))
    c.switches_at-rp_ref.ensures c.switches_at-ref_sign.ensures (i8s_is _ _ c.seven-pocdiff.result (search rules) c.seven-pocdiff.ensures b.diffs) (u8s_is _ _ c.seven-abspocdiff.result (search rules) c.seven-abspocdiff.ensures b.magnitudes)
    e41 (c.sources_of-sources.ensures b.sources))
