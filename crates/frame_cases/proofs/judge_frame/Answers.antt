-- `frame_cases::judge_frame` meets its contract. Assumes nothing.
use Rattle.cases.proofs.Verdicts.{judged}
use Rattle.frame_cases.proofs.judge_frame.Goals as goal

pub returns : goal.returns
returns c = judged c.same_frame.result c.into.result c.into.ensures c.same_frame.ensures
