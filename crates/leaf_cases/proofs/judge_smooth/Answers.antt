-- `leaf_cases::judge_smooth` meets its contract. Assumes nothing.
use Rattle.cases.proofs.Verdicts.{judged}
use Rattle.leaf_cases.proofs.judge_smooth.Goals as goal

pub returns : goal.returns
returns c = judged c.smooth.result c.into.result c.into.ensures c.smooth.ensures
