-- `View::write` meets its contract. Assumes nothing.
use Rattle.std.proofs.Common.{◌≡◌, refl, ◌∙◌, ◌+◌, ap, arith}
use Rattle.show_field.specs.Output.{parts_of, output}
use Rattle.show_field.proofs.Joined.{written_none, written_more, written_all}
use Rattle.show_field.proofs.view.View.write.Goals.{After-loop}
use Rattle.show_field.proofs.view.View.write.Goals as goal

pub loop-init : goal.loop-init
loop-init g c = (refl, refl, written_none _ _ _ refl)

pub write_part-requires : goal.write_part-requires
write_part-requires g c =
    let i = c.loop.invariant in
    (omega arith, (c.requires.of_file, (omega (arith, i.1, c.loop-test.true, c.parts_of-end.ensures), (i.0, omega arith))))

pub loop-preserved : goal.loop-preserved
loop-preserved g c =
    let i = c.loop.invariant in
    let e = c.in_ok-write_part.ensures in
    (e.failed, e.counted ∙ ap (λ k. k + 1) i.1, written_more _ _ _ _ _ _ e.counted i.2 e.written)

-- after the last turn all parts have been handed over
all_sent : (g : _) (c : After-loop g) → c.loop.sent.parts ≡ parts_of c.args.self.now.wanted c.args.self.now.setup.now
all_sent g c = let e : c.loop.counter ≡ c.parts_of-end.result = omega (arith, c.loop-test.false) in c.loop.invariant.1 ∙ e ∙ c.parts_of-end.ensures

pub returns-clause-all : goal.returns-clause-all
returns-clause-all g c = all_sent g (goal.at.returns-clause-all g c).After-loop

pub returns-clause-written : goal.returns-clause-written
unfolding output
returns-clause-written g c = written_all _ _ _ _ _ (all_sent g (goal.at.returns-clause-written g c).After-loop) c.loop.invariant.2
