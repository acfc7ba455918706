-- `kept_cases::judge_lists` meets its contract. Assumes nothing.
use Rattle.cases.proofs.Verdicts.{when_agrees}
use Rattle.kept_cases.specs.KeptCase.{a_pass, a_load}
use Rattle.kept_cases.proofs.judge_lists.Goals as goal

pub returns-then-n-eq14 : goal.returns-then-n-eq14
returns-then-n-eq14 c = when_agrees c.judge_pass.result (a_pass c.if-n-eq14.true) c.judge_pass.ensures.agrees

pub returns : goal.returns
returns c = when_agrees c.judge_call.result (a_load c.if-n-eq14.false) c.judge_call.ensures.agrees
