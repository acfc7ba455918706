-- `refmvs::refmvs_dequantize_mv` meets its contract. Assumes nothing.
use Rattle.intops.proofs.Signed.{back}
use Rattle.refmvs.proofs.refmvs_dequantize_mv.Goals as goal

pub returns : goal.returns
returns c =
    let y = c.ranges.y in let x = c.ranges.x in
    simp back at c.dequantize_mv.ensures
