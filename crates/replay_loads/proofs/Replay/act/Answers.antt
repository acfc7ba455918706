use Rattle.std.proofs.Common.{refl}
use Rattle.replay_loads.proofs.Replay.act.Goals as goal

pub returns-in-Case : goal.returns-in-Case
returns-in-Case c = let e = c.begin_case.ensures in rw c.in-Case.is (e.book, e.cells, e.want, refl)

pub returns-in-Changed : goal.returns-in-Changed
returns-in-Changed c = let e = c.change.ensures in rw c.in-Changed.is (e.book, e.cells, refl)

pub returns-in-Check : goal.returns-in-Check
returns-in-Check c = rw c.in-Check.is c.check.ensures
