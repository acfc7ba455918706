-- `frame_cases::saved_at` meets its contract. Assumes nothing.
use Rattle.std.proofs.Common.{List, ap, ◌∙◌, ℕ, ◌+◌, arith, nat_abs, w64, SFits, rules}
use Rattle.levels.specs.declared.OrderHint.{OrderHint}
use Rattle.intops.proofs.Signed.{back}
use Rattle.frame_cases.specs.FrameCase.{saved_at}
use Rattle.cases.specs.Numbers.{at}
use Rattle.cases.proofs.Elements.{as_u8}
use Rattle.frame_cases.proofs.FrameCase.{saved}
use Rattle.frame_cases.proofs.saved_at.Goals as goal

pub returns : goal.returns
unfolding saved_at
returns c = λ b.
    let n = c.args.n.now in
    let j = c.args.k + 7 in
    let f : SFits w64 (at n j) = search rules in
    let e = as_u8 (simp back at c.number-refcnt.ensures) (b j (omega arith) (omega arith)) in
    ap (λ (v : ℕ). saved c.hints_at-ref_poc.result v) e ∙ ap (λ (h : List OrderHint). saved h (nat_abs (at n j))) (c.hints_at-ref_poc.ensures (λ j h l. b j (omega arith) l))
