use Rattle.std.proofs.Common.{sym, ◌∙◌, arith}
use Rattle.lines.proofs.Laws.{found_now, found_later, found_never}
use Rattle.lines.proofs.Reader.next_line.Goals as goal

pub returns-then-is_some : goal.returns-then-is_some
returns-then-is_some g c =
    let l = c.loop in
    rw (c.next_line.ensures, c.clear.ensures, c.clear-2.ensures) at (found_now l.invariant (omega arith) c.read_some.ensures (sym c.is_some.ensures ∙ c.if-is_some.true))

pub loop-preserved : goal.loop-preserved
loop-preserved g c = found_later c.loop.invariant _ (omega arith) c.read_some.ensures (sym c.is_some.ensures ∙ c.if-is_some.false)

pub returns : goal.returns
returns g c =
    let l = c.loop in
    rw (c.next_line.ensures, c.clear.ensures, c.clear-2.ensures) at (found_never (omega arith) l.invariant)
