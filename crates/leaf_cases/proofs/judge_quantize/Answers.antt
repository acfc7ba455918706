-- `leaf_cases::judge_quantize` meets its contract. Assumes nothing.
use Rattle.cases.proofs.Verdicts.{judged}
use Rattle.leaf_cases.proofs.judge_quantize.Goals as goal

pub returns : goal.returns
returns c = judged c.quantize.result c.into.result c.into.ensures c.quantize.ensures
