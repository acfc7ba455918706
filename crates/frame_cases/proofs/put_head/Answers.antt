-- `frame_cases::put_head` meets its contract. Assumes nothing.
use Rattle.std.proofs.Common.{◌≡◌, ◌∙◌, w8, w32, w64, SFits, rules}
use borrow.Author.Rules.{sfits_of}
use Rattle.intops.proofs.Signed.{back}
use Rattle.frame_cases.proofs.FrameCase.{head_is, word_is}
use Rattle.frame_cases.proofs.put_head.Goals.{Start}
use Rattle.frame_cases.proofs.put_head.Goals as goal

-- the signed fields fit
known : (s : Start) → SFits w8 s.args.f.tip0 × SFits w8 s.args.f.tip1 × SFits w8 s.args.f.tip.delta × SFits w32 s.args.f.tip.sf0 × SFits w32 s.args.f.tip.sf1
known s = search rules

pub returns : goal.returns
returns c =
    let f = c.args.f in
    let (f6, f7, f8, f9, f10) = known (goal.at.returns c).Start in
    let g0 : SFits w64 c.from.result = sfits_of c.from.type_inv in
    let g1 : SFits w64 c.from-2.result = sfits_of c.from-2.type_inv in
    let g2 : SFits w64 c.of_u64.result = sfits_of c.of_u64.type_inv in
    let g3 : SFits w64 c.from-3.result = sfits_of c.from-3.type_inv in
    let g4 : SFits w64 c.from-4.result = sfits_of c.from-4.type_inv in
    let g5 : SFits w64 c.from-5.result = sfits_of c.from-5.type_inv in
    let g6 : SFits w64 c.from-6.result = sfits_of c.from-6.type_inv in
    let g7 : SFits w64 c.from-7.result = sfits_of c.from-7.type_inv in
    let g8 : SFits w64 c.from-8.result = sfits_of c.from-8.type_inv in
    let g9 : SFits w64 c.from-9.result = sfits_of c.from-9.type_inv in
    let g10 : SFits w64 c.from-10.result = sfits_of c.from-10.type_inv in
    let g11 : SFits w64 c.of_u64-2.result = sfits_of c.of_u64-2.type_inv in
    let e6 : c.from-6.result ≡ f.tip0 = simp back at c.from-6.ensures in
    let e7 : c.from-7.result ≡ f.tip1 = simp back at c.from-7.ensures in
    let e8 : c.from-8.result ≡ f.tip.delta = simp back at c.from-8.ensures in
    let e9 : c.from-9.result ≡ f.tip.sf0 = simp back at c.from-9.ensures in
    let e10 : c.from-10.result ≡ f.tip.sf1 = simp back at c.from-10.ensures in
    simp back (head_is f c.args.out.now (c.from.ensures ∙ word_is f.width (search rules)) (c.from-2.ensures ∙ word_is f.height (search rules)) c.of_u64.ensures c.from-3.ensures c.from-4.ensures c.from-5.ensures e6 e7 e8 e9 e10 c.of_u64-2.ensures)
