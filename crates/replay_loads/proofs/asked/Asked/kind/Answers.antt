use Rattle.std.proofs.Common.{pos, w64, refl, rules}
use mir.Val.{SFits}
use Rattle.intops.proofs.Signed.{signed, eq_yes, eq_no}
use Rattle.cases.specs.Numbers.{at, is_on}
use Rattle.replay_loads.proofs.asked.Asked.kind.Goals as goal

pub returns-in-Call : goal.returns-in-Call
unfolding is_on
returns-in-Call c =
    let f : SFits w64 (at c.in-Call.n 7) = search rules in
    let g : SFits w64 (pos 0) = omega signed in
    rw (c.in-Call.is, eq_yes f g c.if-n-eq0.true) refl

pub returns-in-Call-2 : goal.returns-in-Call-2
unfolding is_on
returns-in-Call-2 c =
    let f : SFits w64 (at c.in-Call.n 7) = search rules in
    let g : SFits w64 (pos 0) = omega signed in
    rw (c.in-Call.is, eq_no f g c.if-n-eq0.false) refl
