use Rattle.std.proofs.Common.{sym, ◌∙◌, add-one, arith, true≢false}
use Rattle.lines.specs.Run.{none, then}
use Rattle.lines.proofs.run.take_all.Goals as goal

pub loop-init : goal.loop-init
loop-init g c = record { ran = none c.new-line.ensures c.begin.ensures.new; goes_on = c.begin.ensures.goes_on }

pub loop-preserved : goal.loop-preserved
loop-preserved g c =
    let i = c.loop.invariant in
    record { ran = rw add-one (then i.ran i.goes_on (record { reads = c.next_line.ensures; takes = c.take.ensures })); goes_on = sym c.is_over.ensures ∙ c.if-is_over.false }

pub returns-then-is_over : goal.returns-then-is_over
returns-then-is_over g c =
    let i = c.loop.invariant in
    record { turns = _; input = _; is_end = λ n. absurd (true≢false (sym c.if-is_over.true ∙ c.is_over.ensures ∙ n)); ran = then i.ran i.goes_on (record { reads = c.next_line.ensures; takes = c.take.ensures }) }

pub returns-else-is_over : goal.returns-else-is_over
returns-else-is_over g c =
    let i = c.loop.invariant in
    record { turns = _; input = _; is_end = λ n. omega arith; ran = then i.ran i.goes_on (record { reads = c.next_line.ensures; takes = c.take.ensures }) }
