-- `leaf_cases::judge_hint` meets its contract. Assumes nothing.
use Rattle.cases.proofs.Verdicts.{judged}
use Rattle.leaf_cases.proofs.judge_hint.Goals as goal

pub returns : goal.returns
returns c = judged c.hint.result c.into.result c.into.ensures c.hint.ensures
