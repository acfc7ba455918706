use Rattle.std.proofs.Common.{◌≡◌, false}
use Rattle.lines.specs.Line.{seen}
use Rattle.lines.specs.Run.{kept, Ran}
use Rattle.lines.proofs.run.take_all.Given as goal

abbrev pub invariant-loop : goal.invariant-loop
invariant-loop g l = record {
  ran : Ran g.row.W g.row.N g.T.TakesLines.IsNew g.T.TakesLines.Taken g.T.TakesLines.over l.counter (kept l.input (seen l.line) l.run);
  goes_on : g.T.TakesLines.over l.run ≡ false;
}
