-- `cases::read` meets its contract. Assumes nothing.
use Rattle.std.proofs.Common.{◌≡◌, ◌<◌, ◌+◌, arith, Ok, length, w64, SFits, rules}
use Rattle.std.proofs.lemmas.Grind.{common_steps}
use Rattle.std.proofs.lemmas.Option.{gets, slice_get_within}
use Rattle.intops.proofs.Signed.{back}
use Rattle.cases.specs.Numbers.{at}
use Rattle.cases.proofs.Elements.{read_more}
use Rattle.cases.proofs.read.Goals as goal

pub loop-i-preserved : goal.loop-i-preserved
loop-i-preserved g c =
    let f : SFits w64 c.in_ok-get.field-0.now = search rules in
    let e : at c.args.n.now (c.args.from + c.loop-i.i) ≡ c.in_ok-get.field-0.now = grind (arith, common_steps, gets, c.in_ok-get.ensures.lookup, c.in_ok-numbers.ensures.lookup) in
    let r : c.try_from.result ≡ Ok c.in_ok-v.field-0 = grind (arith, common_steps, c.ok.ensures.value, c.in_ok-v.ensures.value) in
    read_more _ _ _ c.loop-i.invariant (rw (e, ← r) (simp back at c.try_from.ensures))

pub returns : goal.returns
returns g c =
    record { read = λ k v e. let l : k < length c.loop-i.to = slice_get_within c.loop-i.to k v e in c.loop-i.invariant k v (omega (arith, c.loop-i.auto.to, c.loop-i-test.false)) e }
