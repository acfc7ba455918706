-- `leaf_cases::project` meets its contract. Assumes nothing.
use Rattle.std.proofs.Common.{true, ◌≡◌}
use Rattle.cases.proofs.Elements.{plain_32}
use Rattle.leaf_cases.proofs.project.Goals as goal

pub returns : goal.returns
returns c = λ e.
    let p = plain_32 c.in_ok-y.field-0 c.in_ok-y.ensures.fit in
    let t : c.says.result ≡ true = cc in
    let a = simp p at (c.says.ensures t) in
    let m = simp p at c.mv_projection-answer.ensures in
    rw (← c.in_ok-y.ensures.same) (rw (← m) a)
