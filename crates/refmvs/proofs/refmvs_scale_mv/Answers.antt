-- `refmvs::refmvs_scale_mv` meets its contract. Assumes nothing.
use Rattle.intops.proofs.Signed.{back}
use Rattle.refmvs.proofs.refmvs_scale_mv.Goals as goal

pub returns : goal.returns
returns c =
    let y = c.ranges.y in let x = c.ranges.x in let sf = c.ranges.sf in
    simp back at c.scale_mv.ensures
