-- `store::set_all` meets its contract. Assumes nothing.
use Rattle.std.proofs.Common.{◌≡◌, ◌++◌, replicate, drop}
use Rattle.store.proofs.set_all.Given as goal

abbrev pub invariant-loop-cell : goal.invariant-loop-cell
invariant-loop-cell g l = l.line ≡ replicate l.cell-index l.v ++ drop l.cell-index l.initial.line
