-- `refmvs::refmvs_mv_projection` meets its contract. Assumes nothing.
use Rattle.intops.proofs.Signed.{back}
use Rattle.refmvs.proofs.refmvs_mv_projection.Goals as goal

pub returns : goal.returns
returns c =
    let y = c.ranges.y in let x = c.ranges.x in let num = c.ranges.num in let den = c.ranges.den in let min = c.ranges.min in let max = c.ranges.max in
    simp back at c.mv_projection.ensures
