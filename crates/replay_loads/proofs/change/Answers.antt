use Rattle.replay_loads.proofs.Laws.{change_leaves}
use Rattle.replay_loads.proofs.change.Goals as goal

pub returns-clause-book : goal.returns-clause-book
returns-clause-book c = change_leaves c.put-is_set.ensures c.change.ensures
