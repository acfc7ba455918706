-- `topo::topo_order` meets its contract. Assumes nothing.
use Rattle.std.proofs.Common.{◌≡◌, ◌≤◌}
use Rattle.loops.specs.Over.{span}
use Rattle.topo.specs.Topo.{enter, ordered}
use Rattle.topo.proofs.Laws.{Room}
use Rattle.topo.proofs.topo_order.Given as goal

abbrev pub invariant-loop-i : goal.invariant-loop-i
invariant-loop-i l = (l.i ≤ l.n) × Room l.o × (span (enter 7 l.links) l.i l.n l.o ≡ ordered l.links l.n)
