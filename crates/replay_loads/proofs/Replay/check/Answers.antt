use Rattle.std.proofs.Common.{refl}
use Rattle.replay_loads.specs.declared.book.End.TheVariants.{NotALine}
use Rattle.replay_loads.specs.Calls.{stops, MayCheck}
use Rattle.replay_loads.proofs.Laws.{checked_as}
use Rattle.replay_loads.proofs.Replay.check.Goals as goal

pub returns-in_default : goal.returns-in_default
returns-in_default c = stops {why = NotALine} tt refl c.end.ensures refl

pub returns : goal.returns
returns c =
    let j = c.judge-verdict in
    let m : MayCheck c.args.self.now.book c.args.n.now c.in-Some.setup.now c.in-Some.call = c.in-Some.ensures in
    checked_as j.result m (rw c.numbers.ensures at j.ensures) refl refl c.judged.ensures.book c.judged.ensures.tallies
