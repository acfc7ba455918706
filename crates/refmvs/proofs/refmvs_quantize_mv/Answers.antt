-- `refmvs::refmvs_quantize_mv` meets its contract. Assumes nothing.
use Rattle.intops.proofs.Signed.{back}
use Rattle.refmvs.proofs.refmvs_quantize_mv.Goals as goal

pub returns : goal.returns
returns c =
    let y = c.ranges.y in let x = c.ranges.x in
    simp back at c.quantize_mv.ensures
