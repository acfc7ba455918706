-- `intersect::check_traj_intersect` meets its contract. Assumes nothing.
use Rattle.std.proofs.Common.{sym, ◌∙◌, ◌<◌, arith}
use Rattle.tile.specs.Layout.{on_step, cells_of, moved}
use Rattle.tile.specs.Tiles.{geometry}
use Rattle.traj.proofs.Windows.{in_frame_lem}
use Rattle.intersect.proofs.Ways.{meet_off, meet_on}
use Rattle.intersect.proofs.check_traj_intersect.Goals.{Else-not-in_frame}
use Rattle.intersect.proofs.check_traj_intersect.Goals as goal

inside : (c : Else-not-in_frame) → let a = c.args in let t = geometry a.t.now in (on_step t (moved a.at.y (cells_of a.mv.y)) < t.high) × (on_step t (moved a.at.x (cells_of a.mv.x)) < t.wide)
inside c = let a = c.args in in_frame_lem (geometry a.t.now) a.t.now.sound a.at.y a.at.x a.mv (sym c.in_frame.ensures ∙ c.if-not-in_frame.false)

pub returns-then-not-in_frame-clause-stored : goal.returns-then-not-in_frame-clause-stored
returns-then-not-in_frame-clause-stored c =
    let a = c.args in let f = c.follow_all in
    meet_off (geometry a.t.now) a.a a.b a.at.y a.at.x a.mv a.trajectories.now a.maps.now f.new.trajectories f.new.maps f.ensures.stored (sym c.in_frame.ensures ∙ c.if-not-in_frame.true)

pub follow_all-requires-2-clause-half : goal.follow_all-requires-2-clause-half
follow_all-requires-2-clause-half c =
    let k = c.args.t.now.sound in let i = inside (goal.at.follow_all-requires-2-clause-half c).Else-not-in_frame in
    record { a = c.requires.to_slot; b = c.requires.from_slot; y = rw c.end_of-end.ensures.y (omega (arith, i.0, k.high_low)); x = rw c.end_of-end.ensures.x (omega (arith, i.1, k.wide)) }

pub returns-clause-stored : goal.returns-clause-stored
returns-clause-stored c =
    let a = c.args in let f = c.follow_all in let g = c.follow_all-2 in
    meet_on (geometry a.t.now) a.a a.b a.at.y a.at.x a.mv a.trajectories.now a.maps.now f.new.trajectories f.new.maps f.ensures.stored (sym c.in_frame.ensures ∙ c.if-not-in_frame.false)
    c.end_of-end.result.y c.end_of-end.result.x c.turned-back.result g.new.trajectories g.new.maps c.end_of-end.ensures.y c.end_of-end.ensures.x c.turned-back.ensures g.ensures.stored
