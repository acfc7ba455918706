-- `store::set_all` meets its contract. Assumes nothing.
use Rattle.std.proofs.Common.{◌∙◌, ap, set, arith}
use Rattle.store.proofs.Turns.{items_more}
use Rattle.store.proofs.set_all.Goals as goal

pub loop-cell-preserved : goal.loop-cell-preserved
loop-cell-preserved g c =
    ap (λ m. set m c.loop-cell.cell-index c.args.v) c.loop-cell.invariant ∙ items_more c.args.v c.loop-cell.cell-index c.args.line.now (omega arith)
