-- `traj::put_gaps_traj` meets its contract. Assumes nothing.
use Rattle.std.proofs.Common.{◌+◌, ◌<◌, arith}
use Rattle.store.proofs.Borrows.{same_pairs_after}
use Rattle.tile.specs.Tiles.{geometry}
use Rattle.tile.proofs.Lent.{traj_held_after}
use Rattle.tile.proofs.Owner.{mine_low}
use Rattle.traj.proofs.Rows.{within_at}
use Rattle.traj.proofs.Ways.{gaps_on}
use Rattle.traj.proofs.put_gaps_traj.Goals.{Start}
use Rattle.traj.proofs.put_gaps_traj.Goals as goal

right : (s : Start) → s.args.x + 1 < s.args.t.now.stride
right s = mine_low (geometry s.args.t.now) s.args.t.now.sound (s.args.x + 1) s.requires.gaps.right

pub overflow_add-x : goal.overflow_add-x
overflow_add-x c = omega (arith, right (goal.at.overflow_add-x c).Start, c.args.t.now.sound.stride_low)

pub traj_in-requires-clause-column : goal.traj_in-requires-clause-column
traj_in-requires-clause-column c = right (goal.at.traj_in-requires-clause-column c).Start

pub put_vector-requires : goal.put_vector-requires
put_vector-requires c =
    let a = c.args in
    within_at (geometry a.t.now) a.t.now.sound c.traj_in.result a.n a.y (a.x + 1) c.traj_in.ensures c.requires.slot (right (goal.at.put_vector-requires c).Start) _ c.requires.held

pub traj_in-requires-2-clause-column : goal.traj_in-requires-2-clause-column
traj_in-requires-2-clause-column c = omega (arith, right (goal.at.traj_in-requires-2-clause-column c).Start)

pub put_vector-requires-2 : goal.put_vector-requires-2
put_vector-requires-2 c =
    let a = c.args in let t = geometry a.t.now in
    within_at t a.t.now.sound c.traj_in-2.result a.n (a.y + 1) a.x c.traj_in-2.ensures c.requires.slot (omega (arith, right (goal.at.put_vector-requires-2 c).Start)) _
    (traj_held_after t c.put_vector.ensures.same_borrow c.requires.held)

pub overflow_add-x-2 : goal.overflow_add-x-2
overflow_add-x-2 c = omega (arith, right (goal.at.overflow_add-x-2 c).Start, c.args.t.now.sound.stride_low)

pub traj_in-requires-3-clause-column : goal.traj_in-requires-3-clause-column
traj_in-requires-3-clause-column c = right (goal.at.traj_in-requires-3-clause-column c).Start

pub put_vector-requires-3 : goal.put_vector-requires-3
put_vector-requires-3 c =
    let a = c.args in let t = geometry a.t.now in
    within_at t a.t.now.sound c.traj_in-3.result a.n (a.y + 1) (a.x + 1) c.traj_in-3.ensures c.requires.slot (right (goal.at.put_vector-requires-3 c).Start) _
    (traj_held_after t (same_pairs_after c.put_vector-2.ensures.same_borrow c.put_vector.ensures.same_borrow) c.requires.held)

pub returns-clause-stored : goal.returns-clause-stored
returns-clause-stored c =
    let a = c.args in
    gaps_on (geometry a.t.now) a.t.now.sound a.n c.requires.slot a.y a.x c.requires.gaps a.trajectories.now a.v a.a a.b a.c
    c.traj_in.result c.traj_in-2.result c.traj_in-3.result c.gap_of_two-beside.result c.gap_of_two-below.result c.gap_of_four-between.result c.put_vector.new.self c.put_vector-2.new.self c.put_vector-3.new.self
    c.traj_in.ensures c.traj_in-2.ensures c.traj_in-3.ensures c.gap_of_two-beside.ensures c.gap_of_two-below.ensures c.gap_of_four-between.ensures c.put_vector.ensures.stored c.put_vector-2.ensures.stored c.put_vector-3.ensures.stored
