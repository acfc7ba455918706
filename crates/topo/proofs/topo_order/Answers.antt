-- `topo::topo_order` meets its contract. Assumes nothing.
use Rattle.std.proofs.Common.{arith, refl}
use Rattle.loops.proofs.Turns.{turned, ended}
use Rattle.topo.specs.Topo.{enter, ordered}
use Rattle.topo.proofs.Laws.{grown, grown_room, none_room}
use Rattle.topo.proofs.topo_order.Goals as goal

pub loop-i-init : goal.loop-i-init
unfolding ordered
loop-i-init c = (omega arith, none_room, refl)

pub loop-i-preserved : goal.loop-i-preserved
loop-i-preserved c =
    let l = c.loop-i in let a = c.args in let k = c.topo_insert-o in
    let h = c.loop-i-test.true in let e = rw c.from_index.ensures at k.ensures in (
      omega arith,
      rw e (grown_room (grown 7 a.links.now l.i l.o (omega arith) l.invariant.1) l.invariant.1),
      turned (enter 7 a.links.now) a.n l.i l.o _ _ h e l.invariant.2,
    )

pub returns : goal.returns
returns c = ended (enter 7 c.args.links.now) _ _ _ _ c.loop-i-test.false c.loop-i.invariant.2
