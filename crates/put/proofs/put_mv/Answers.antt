-- `put::put_mv` meets its contract. Assumes nothing.
use Rattle.std.proofs.Common.{◌≡◌, refl, ◌∙◌, sym, arith, get_or}
use Rattle.store.specs.Lent.{stored_trajs}
use Rattle.store.specs.Store.{Store, byte_cell}
use Rattle.store.specs.Program.{run, when}
use Rattle.tile.specs.Owner.{owns}
use Rattle.tile.specs.Tiles.{geometry}
use Rattle.tile.proofs.Places.{at_low}
use Rattle.tile.proofs.Owner.{mine_low}
use Rattle.field.specs.Lent.{IsWithin, vector_in}
use Rattle.project.specs.Project.{takes, put_trajs}
use Rattle.put.proofs.Steps.{mv_off, mv_on, same_put}
use Rattle.put.proofs.put_mv.Goals.{After-field_at-at, After-takes, then-traj, else-traj}
use Rattle.put.proofs.put_mv.Goals as goal

within : (c : After-field_at-at) → IsWithin c.args.field.now c.field_at-at.result
within c =
    let t = geometry c.args.t.now in let k = c.args.t.now.sound in let h = c.requires.field in
    let l = at_low t k c.field_at-at.result c.args.to.y c.args.to.x c.field_at-at.ensures (mine_low t k c.args.to.x c.requires.landing.own) in
    record { y = omega (arith, l, h.y); x = omega (arith, l, h.x); reference = omega (arith, l, h.ref) }

-- the test, of the cell as the lists have it
took : (c : After-takes) → let e = c.args.e.now.entry in
    takes e.source.now e.reference (vector_in c.args.field.now c.field_at-at.result) (byte_cell (get_or c.args.field.now.reference.now c.field_at-at.result 0)) ≡ c.takes.result
took c = sym (rw c.vector-old.ensures at c.takes.ensures)

pub field_at-at-requires-clause-column : goal.field_at-at-requires-clause-column
field_at-at-requires-clause-column c = mine_low (geometry c.args.t.now) c.args.t.now.sound c.args.to.x c.requires.landing.own

pub vector-old-requires : goal.vector-old-requires
vector-old-requires c = let w = within c in record { y = w.y; x = w.x }

pub bounds-field-at : goal.bounds-field-at
bounds-field-at c = (within (goal.at.bounds-field-at c).After-field_at-at).reference

pub returns-then-not-takes-clause-stored : goal.returns-then-not-takes-clause-stored
returns-then-not-takes-clause-stored c =
    let a = c.args in let e = a.e.now.entry in
    λ u b h we. rw (same_put (geometry a.t.now) a.traj a.v a.from.y a.from.x a.to.y a.to.x u b e.source.now e.reference h)
    (mv_off (geometry a.t.now) a.t.now.sound a.traj a.v a.from.y a.from.x a.to.y a.to.x c.requires.landing.own e.source.now e.reference a.field.now a.trajectories.now a.maps.now
    c.field_at-at.result c.field_at-at.ensures (took (goal.at.returns-then-not-takes-clause-stored c).After-takes ∙ c.if-not-takes.true))

pub put-requires : goal.put-requires
put-requires c = within (goal.at.put-requires c).After-field_at-at

pub returns-clause-stored : goal.returns-clause-stored
returns-clause-stored c =
    let a = c.args in let e = a.e.now.entry in let t = geometry a.t.now in
    λ u b h we.
    let p : (u : Store) → stored_trajs u c.if-traj.trajectories c.if-traj.maps ≡ run (owns t) (when a.traj (put_trajs t e.source.now e.reference a.v a.from.y a.from.x a.to.y a.to.x)) (stored_trajs u a.trajectories.now a.maps.now)
    = λ u. elim c.if-traj.branch [
      | then-traj w ↦ rw (w.trajectories-is, w.maps-is, w.if-traj.true) (w.put_trajs.ensures.stored (we ∙ h.vector) u)
      | else-traj w ↦ rw (w.trajectories-is, w.maps-is, w.if-traj.false) refl
    ] in
    rw (same_put t a.traj a.v a.from.y a.from.x a.to.y a.to.x u b e.source.now e.reference h)
    (mv_on t a.t.now.sound a.traj a.v a.from.y a.from.x a.to.y a.to.x c.requires.landing.own e.source.now e.reference a.field.now a.trajectories.now a.maps.now
    c.field_at-at.result c.field_at-at.ensures (took (goal.at.returns-clause-stored c).After-takes ∙ c.if-not-takes.false) c.put.new.self c.if-traj.trajectories c.if-traj.maps p
    c.turned.result c.distance.result c.turned.ensures c.distance.ensures c.put.ensures.stored)
