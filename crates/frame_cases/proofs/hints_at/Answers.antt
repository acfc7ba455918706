-- `frame_cases::hints_at` meets its contract. Assumes nothing.
use Rattle.std.proofs.Common.{◌≡◌, length, get_or, nat_abs, ◌+◌, arith, rules}
use Rattle.std.proofs.lemmas.Option.{slice_get-get_or}
use Rattle.loops.proofs.Seven.{mapped_is}
use Rattle.cases.specs.Numbers.{at, hint_at}
use Rattle.cases.proofs.Elements.{as_u8}
use Rattle.frame_cases.specs.FrameCase.{hints_at}
use Rattle.frame_cases.proofs.hints_at.Goals as goal

pub returns : goal.returns
unfolding hints_at
returns c = λ h.
    let k = c.args.k in
    let xs = c.seven-hints.result in
    let long : length xs ≡ 7 = search rules in
    mapped_is _ _ (λ i. hint_at c.args.n.now (k + i)) xs
    (λ i x y q l e b.
    let v : get_or xs i 0 ≡ nat_abs (at c.args.n.now (k + i)) = as_u8 (c.seven-hints.ensures i (get_or xs i 0) l (slice_get-get_or xs i 0 (omega arith))) (h (k + i) (omega arith) (omega arith)) in
    rw (← v, e 0) (search rules))
    _ c.map.ensures.items
