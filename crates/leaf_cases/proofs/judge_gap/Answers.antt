-- `leaf_cases::judge_gap` meets its contract. Assumes nothing.
use Rattle.cases.proofs.Verdicts.{judged}
use Rattle.leaf_cases.proofs.judge_gap.Goals as goal

pub returns : goal.returns
returns c = judged c.gap.result c.into.result c.into.ensures c.gap.ensures
