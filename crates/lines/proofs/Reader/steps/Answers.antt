use Rattle.std.proofs.Common.{refl, sym, ◌∙◌, ◌≤◌, ◌<◌, ◌≡◌, get_or, length, arith}
use Rattle.std.proofs.lemmas.Grind.{common_steps}
use Rattle.lines.specs.Line.{seen, steps}
use Rattle.lines.proofs.Laws.{ends, lacks, goes_on, stops}
use Rattle.lines.proofs.Reader.steps.Goals as goal

pub loop-i-init : goal.loop-i-init
unfolding steps
loop-i-init g c = refl

pub returns-in_default : goal.returns-in_default
returns-in_default g c =
    let l = c.loop-i in
    let h : length c.args.input.now ≤ l.i = grind (arith, common_steps, c.in_default.ensures.lookup) in
    rw c.finds.ensures (lacks c.args.input.now c.args.self.now.state.end l.i (seen l.self) l.invariant c.loop-i-test.true h)

pub returns-then-is_some : goal.returns-then-is_some
returns-then-is_some g c =
    let l = c.loop-i in
    let h : l.i < length c.args.input.now = grind (arith, common_steps, c.in-Some.ensures.lookup) in
    let b : c.in-Some.field-0.now ≡ get_or c.args.input.now l.i 0 = grind (arith, common_steps, c.in-Some.ensures.lookup) in
    stops c.args.input.now c.args.self.now.state.end l.i (seen l.self) l.invariant _ c.loop-i-test.true h (rw b at c.step.ensures) (sym c.is_some.ensures ∙ c.if-is_some.true)

pub loop-i-preserved : goal.loop-i-preserved
loop-i-preserved g c =
    let l = c.loop-i in
    let h : l.i < length c.args.input.now = grind (arith, common_steps, c.in-Some.ensures.lookup) in
    let b : c.in-Some.field-0.now ≡ get_or c.args.input.now l.i 0 = grind (arith, common_steps, c.in-Some.ensures.lookup) in
    goes_on c.args.input.now c.args.self.now.state.end l.i (seen l.self) l.invariant _ c.loop-i-test.true h (rw b at c.step.ensures) (sym c.is_some.ensures ∙ c.if-is_some.false)

pub returns : goal.returns
returns g c =
    let l = c.loop-i in
    ends c.args.input.now c.args.self.now.state.end l.i (seen l.self) l.invariant c.loop-i-test.false
