-- `load_cases::setup::tip_of` meets its contract. Assumes nothing.
use Rattle.std.proofs.Common.{arith, w8, w32, w64, SFits, rules}
use borrow.Author.Rules.{sfits_of}
use Rattle.intops.proofs.Signed.{back}
use Rattle.cases.specs.Numbers.{at}
use Rattle.cases.proofs.Elements.{as_i32, as_i8}
use Rattle.load_cases.proofs.SetupParts.{tip_is}
use Rattle.load_cases.proofs.setup.tip_of.Goals as goal

pub returns : goal.returns
returns c =
    let n = c.args.n.now in
    let f8 : SFits w64 (at n 8) = search rules in
    let f9 : SFits w64 (at n 9) = search rules in
    let f10 : SFits w64 (at n 10) = search rules in
    let g8 : SFits w8 c.number-delta.result = sfits_of c.number-delta.type_inv in
    let g9 : SFits w32 c.number-sf0.result = sfits_of c.number-sf0.type_inv in
    let g10 : SFits w32 c.number-sf1.result = sfits_of c.number-sf1.type_inv in
    let e8 = simp back at c.number-delta.ensures in
    let e9 = simp back at c.number-sf0.ensures in
    let e10 = simp back at c.number-sf1.ensures in
    λ b. simp back (tip_is n (as_i8 e8 (b.delta 8 (omega arith) (omega arith))) (as_i32 e9 (b.factors 9 (omega arith) (omega arith))) (as_i32 e10 (b.factors 10 (omega arith) (omega arith))))
