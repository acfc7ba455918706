-- `leaf_cases::judge_project` meets its contract. Assumes nothing.
use Rattle.cases.proofs.Verdicts.{judged}
use Rattle.leaf_cases.proofs.judge_project.Goals as goal

pub returns : goal.returns
returns c = judged c.project.result c.into.result c.into.ensures c.project.ensures
