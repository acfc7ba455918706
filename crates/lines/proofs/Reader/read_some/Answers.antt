use Rattle.std.proofs.Common.{sym, ◌∙◌}
use Rattle.lines.specs.Line.{seen}
use Rattle.lines.proofs.Laws.{read_more}
use Rattle.lines.proofs.Reader.read_some.Goals as goal

pub returns-else-self-eq0 : goal.returns-else-self-eq0
returns-else-self-eq0 g c =
    read_more c.args.input.now (seen c.args.self.now) (seen c.steps.new.self) c.steps.ensures c.fill.new.self (sym c.is_some.ensures ∙ c.if-is_some.false) c.fill.ensures.filled c.fill.ensures.fits c.if-self-eq0.false
