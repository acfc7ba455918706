-- `frame_cases::put_seven` meets its contract. Assumes nothing.
use Rattle.std.proofs.Common.{◌≡◌, refl, ap, get_or, ◌+◌, arith, set, w64, SFits, rules}
use Rattle.std.proofs.lemmas.Option.{slice_get-get_or}
use Rattle.intops.proofs.Signed.{back}
use Rattle.loops.proofs.Turns.{turned, ended}
use Rattle.frame_cases.specs.FrameCase.{putting, put_seven}
use Rattle.frame_cases.proofs.put_seven.Goals as goal

pub loop-i-init : goal.loop-i-init
unfolding put_seven
loop-i-init g c = λ f h. refl

pub loop-i-preserved : goal.loop-i-preserved
loop-i-preserved g c = λ f h.
    let l = c.loop-i in
    let w : SFits w64 c.into.result = search rules in
    let x = get_or c.args.a.now l.i c.index-a-i.result in
    let e : c.into.result ≡ f l.i = h l.i x c.into.result (slice_get-get_or c.args.a.now l.i c.index-a-i.result (omega (arith, c.type_inv.a, c.loop-i-test.true))) c.into.ensures in
    simp back (turned (putting f c.args.k) 7 l.i l.out _ _ c.loop-i-test.true (ap (set l.out (c.args.k + l.i)) e) (l.invariant f h))

pub returns : goal.returns
returns g c = λ f h. ended _ _ _ _ _ c.loop-i-test.false (c.loop-i.invariant f h)
