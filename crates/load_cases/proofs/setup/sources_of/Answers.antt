-- `load_cases::setup::sources_of` meets its contract. Assumes nothing.
use Rattle.std.proofs.Common.{◌≡◌, ◌+◌, ◌*◌, arith, w64, SFits, rules}
use Rattle.intops.proofs.Signed.{back}
use Rattle.loops.proofs.Seven.{made}
use Rattle.cases.specs.Numbers.{at}
use Rattle.cases.proofs.Elements.{as_u8, as_usize}
use Rattle.load_cases.specs.Setup.{source_at, SourceNumbers}
use Rattle.load_cases.proofs.SetupParts.{sources_is}
use Rattle.load_cases.proofs.setup.sources_of.Goals as goal

pub returns : goal.returns
returns c =
    let n = c.args.n.now in
    let f40 : SFits w64 (at n 40) = search rules in
    let f42 : SFits w64 (at n 42) = search rules in
    let e40 = simp back at c.number-mfmv_mask.ensures in
    let e42 = simp back at c.number-n_mfmvs.ensures in
    λ b. sources_is n (as_u8 e40 (b.mask 40 (omega arith) (omega arith))) (as_usize e42 (b.count 42 (omega arith) (omega arith))) c.from_fn-mfmv.ensures.items.long
    (λ i l. made _ (λ i y. SourceNumbers n (43 + 32 * i) → y ≡ source_at n (43 + 32 * i)) _ 4 (λ i y q l k. search rules) _ c.from_fn-mfmv.ensures.items (source_at n 43) i l (b.each i l))
