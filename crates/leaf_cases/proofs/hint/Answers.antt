-- `leaf_cases::hint` meets its contract. Assumes nothing.
use Rattle.std.proofs.Common.{true, ◌≡◌, sym, ap, ◌∙◌, pos, w32, w64, of_z, SFits, rules}
use lib.Dec.{eqb}
use borrow.Author.Tests.{eqb-true}
use Rattle.intops.proofs.Signed.{back, same_bits}
use Rattle.cases.specs.Numbers.{at}
use Rattle.cases.proofs.Elements.{fitted}
use Rattle.leaf_cases.proofs.Judged.{told_diff}
use Rattle.leaf_cases.proofs.hint.Goals as goal

pub returns-then-from-refusal : goal.returns-then-from-refusal
returns-then-from-refusal c = λ e.
    let n = c.args.n.now in
    let f0 : SFits w64 (at n 0) = search rules in
    let f1 : SFits w64 (at n 1) = search rules in
    let f2 : SFits w64 (at n 2) = search rules in
    let f3 : SFits w64 (at n 3) = search rules in
    let f4 : SFits w64 (at n 4) = search rules in
    let bits = fitted c.try_from.result (simp back at c.try_from.ensures) c.in_ok-nbits.ensures.value in
    let a = fitted c.try_from-2.result (simp back at c.try_from-2.ensures) c.in_ok-ok.ensures.value in
    let b = fitted c.try_from-3.result (simp back at c.try_from-3.ensures) c.in_ok-ok-2.ensures.value in
    let s = fitted c.try_from-4.result (simp back at c.try_from-4.ensures) c.in_ok-stated.ensures.value in
    let m = rw (bits.1, a.1, b.1) at c.get_poc_diff.ensures in
    let d = told_diff c.get_poc_diff.result in
    let g : SFits w64 c.from.result = search rules in
    let h : SFits w32 c.said-number.result.1 = search rules in
    let i : SFits w32 c.in_ok-stated.stated = search rules in
    let q : at n 3 ≡ pos c.said-number.result.0 = sym (same_bits g f3 c.if-from-refusal.true) ∙ c.from.ensures in
    let t : eqb (of_z w32 c.said-number.result.1) (of_z w32 c.in_ok-stated.stated) ≡ true = cc in
    let v : c.said-number.result.1 ≡ c.in_ok-stated.stated = same_bits h i (eqb-true _ _ t) in
    rw (← m) (record { same_refusal = q ∙ ap pos (c.said-number.ensures.number ∙ d.0); same_diff = sym s.1 ∙ sym v ∙ c.said-number.ensures.value ∙ d.1 })
