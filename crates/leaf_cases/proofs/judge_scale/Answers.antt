-- `leaf_cases::judge_scale` meets its contract. Assumes nothing.
use Rattle.cases.proofs.Verdicts.{judged}
use Rattle.leaf_cases.proofs.judge_scale.Goals as goal

pub returns : goal.returns
returns c = judged c.scale.result c.into.result c.into.ensures c.scale.ensures
