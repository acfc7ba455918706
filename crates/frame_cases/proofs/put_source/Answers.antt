-- `frame_cases::put_source` meets its contract. Assumes nothing.
use Rattle.std.proofs.Common.{◌≡◌, w8, w64, SFits, rules}
use borrow.Author.Rules.{sfits_of}
use Rattle.intops.proofs.Signed.{back}
use Rattle.cases.specs.Numbers.{at}
use Rattle.frame_cases.proofs.FrameCase.{source_is, of_signed}
use Rattle.frame_cases.proofs.put_source.Goals.{Start}
use Rattle.frame_cases.proofs.put_source.Goals as goal

-- the signed fields fit
known : (s : Start) → SFits w8 s.args.s.tgt × SFits w8 s.args.s.ref2cur
known s = search rules

pub returns : goal.returns
returns c =
    let x = c.args.s in
    let (f1, f3) = known (goal.at.returns c).Start in
    let g0 : SFits w64 c.from.result = sfits_of c.from.type_inv in
    let g1 : SFits w64 c.from-2.result = sfits_of c.from-2.type_inv in
    let g2 : SFits w64 c.from-3.result = sfits_of c.from-3.type_inv in
    let g3 : SFits w64 c.from-4.result = sfits_of c.from-4.type_inv in
    let e1 : c.from-2.result ≡ x.tgt = simp back at c.from-2.ensures in
    let e3 : c.from-4.result ≡ x.ref2cur = simp back at c.from-4.ensures in
    source_is x c.args.k c.args.out.now c.from.ensures e1 c.from-3.ensures e3 (simp back at (c.put_seven.ensures (at x.ref2ref) (of_signed x.ref2ref))) (c.put_seven-2.ensures (at x.ref2idx) (of_signed x.ref2idx)) (c.put_seven-3.ensures (at x.ref2sf0) (of_signed x.ref2sf0)) (c.put_seven-4.ensures (at x.ref2sf1) (of_signed x.ref2sf1))
