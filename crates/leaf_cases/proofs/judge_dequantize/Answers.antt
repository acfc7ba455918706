-- `leaf_cases::judge_dequantize` meets its contract. Assumes nothing.
use Rattle.cases.proofs.Verdicts.{judged}
use Rattle.leaf_cases.proofs.judge_dequantize.Goals as goal

pub returns : goal.returns
returns c = judged c.dequantize.result c.into.result c.into.ensures c.dequantize.ensures
