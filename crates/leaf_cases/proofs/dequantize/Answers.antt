-- `leaf_cases::dequantize` meets its contract. Assumes nothing.
use Rattle.std.proofs.Common.{true, ◌≡◌, w8, SFits, rules}
use Rattle.intops.proofs.Signed.{back}
use Rattle.cases.proofs.Elements.{plain_32, fitted}
use Rattle.leaf_cases.proofs.dequantize.Goals as goal

pub returns : goal.returns
returns c = λ e.
    let p = plain_32 c.in_ok-y.field-0 c.in_ok-y.ensures.fit in
    let t : c.says.result ≡ true = cc in
    let a = simp p at (c.says.ensures t) in
    let y = fitted c.try_from.result (simp p at c.try_from.ensures) c.in_ok-y-2.ensures.value in
    let x = fitted c.try_from-2.result (simp p at c.try_from-2.ensures) c.in_ok-x.ensures.value in
    let f : SFits w8 c.in_ok-y-2.y = search rules in
    let g : SFits w8 c.in_ok-x.x = search rules in
    let m = rw (y.1, x.1) at (simp back at c.dequantize_mv-answer.ensures) in
    rw (← c.in_ok-y.ensures.same) (rw (← m) a)
