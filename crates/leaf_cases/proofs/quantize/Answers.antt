-- `leaf_cases::quantize` meets its contract. Assumes nothing.
use Rattle.std.proofs.Common.{true, ◌≡◌, sym, ◌∙◌, w8, SFits, rules}
use Rattle.intops.proofs.Signed.{back}
use Rattle.cases.proofs.Elements.{plain_32, fitted}
use Rattle.leaf_cases.proofs.Judged.{same_packed, packed_of}
use Rattle.leaf_cases.proofs.quantize.Goals as goal

pub returns : goal.returns
returns c = λ e.
    let p = plain_32 c.in_ok-y.field-0 c.in_ok-y.ensures.fit in
    let t : c.eq.result ≡ true = cc in
    let y = fitted c.try_from.result (simp p at c.try_from.ensures) c.in_ok-stated_y.ensures.value in
    let x = fitted c.try_from-2.result (simp p at c.try_from-2.ensures) c.in_ok-stated_x.ensures.value in
    let f : SFits w8 c.in_ok-stated_y.stated_y = search rules in
    let g : SFits w8 c.in_ok-stated_x.stated_x = search rules in
    let m = simp p at c.quantize_mv-q.ensures in
    let q = same_packed c.quantize_mv-q.result (record { y = c.in_ok-stated_y.stated_y; x = c.in_ok-stated_x.stated_x }) (sym (simp back at c.eq.ensures) ∙ t) in
    rw (← c.in_ok-y.ensures.same) (sym m ∙ q ∙ packed_of y.1 x.1)
