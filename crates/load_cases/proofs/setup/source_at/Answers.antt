-- `load_cases::setup::source_at` meets its contract. Assumes nothing.
use Rattle.std.proofs.Common.{◌+◌, arith, w8, w64, SFits, rules}
use borrow.Author.Rules.{sfits_of}
use Rattle.intops.proofs.Signed.{back}
use Rattle.cases.specs.Numbers.{at}
use Rattle.cases.proofs.Elements.{as_i8, as_u8}
use Rattle.load_cases.proofs.SetupParts.{i32s_is, i8s_is, source_is}
use Rattle.load_cases.proofs.setup.source_at.Goals as goal

pub returns : goal.returns
returns c =
    let n = c.args.n.now in
    let k = c.args.k in
    let f0 : SFits w64 (at n k) = search rules in
    let f1 : SFits w64 (at n (k + 1)) = search rules in
    let f2 : SFits w64 (at n (k + 2)) = search rules in
    let f3 : SFits w64 (at n (k + 3)) = search rules in
    let g1 : SFits w8 c.number-tgt.result = sfits_of c.number-tgt.type_inv in
    let g3 : SFits w8 c.number-ref2cur.result = sfits_of c.number-ref2cur.type_inv in
    let e0 = simp back at c.number.ensures in
    let e1 = simp back at c.number-tgt.ensures in
    let e2 = simp back at c.number-dir.ensures in
    let e3 = simp back at c.number-ref2cur.ensures in
    λ b. simp back (source_is n k (as_u8 e0 (b.reference k (omega arith) (omega arith))) (as_i8 e1 (b.tgt (k + 1) (omega arith) (omega arith))) (as_u8 e2 (b.dir (k + 2) (omega arith) (omega arith))) (as_i8 e3 (b.distances (k + 3) (omega arith) (omega arith)))
    (i8s_is _ _ c.seven-ref2ref.result (search rules) c.seven-ref2ref.ensures (λ j h l. b.distances j (omega arith) (omega arith))) (i8s_is _ _ c.seven-ref2idx.result (search rules) c.seven-ref2idx.ensures (λ j h l. b.distances j (omega arith) (omega arith)))
    (i32s_is _ _ c.seven-ref2sf0.result (search rules) c.seven-ref2sf0.ensures (λ j h l. b.factors j (omega arith) (omega arith))) (i32s_is _ _ c.seven-ref2sf1.result (search rules) c.seven-ref2sf1.ensures (λ j h l. b.factors j (omega arith) (omega arith))))
