-- `intersect::enter_end` meets its contract. Assumes nothing.
use Rattle.std.proofs.Common.{sym, ◌∙◌, arith}
use Rattle.tile.specs.Layout.{on_step, cells_of, moved}
use Rattle.tile.specs.Tiles.{geometry}
use Rattle.tile.proofs.Owner.{mine_low}
use Rattle.traj.proofs.Windows.{Ends, ends_near}
use Rattle.intersect.proofs.Ways.{end_off, end_on}
use Rattle.intersect.proofs.enter_end.Goals.{Else-not-ends_in}
use Rattle.intersect.proofs.enter_end.Goals as goal

ends : (c : Else-not-ends_in) → let a = c.args in let t = geometry a.t.now in Ends t a.first.y a.first.x (on_step t (moved a.from.y (cells_of a.v.y))) (on_step t (moved a.from.x (cells_of a.v.x)))
ends c = let a = c.args in ends_near (geometry a.t.now) a.t.now.sound a.first.y a.first.x a.from.y a.from.x a.v (sym c.ends_in.ensures ∙ c.if-not-ends_in.false)

pub ends_in-requires-clause-column : goal.ends_in-requires-clause-column
ends_in-requires-clause-column c = let k = c.args.t.now.sound in omega (arith, mine_low (geometry c.args.t.now) k c.args.first.x c.requires.first.block, k.stride_low)

pub returns-then-not-ends_in-clause-stored : goal.returns-then-not-ends_in-clause-stored
returns-then-not-ends_in-clause-stored c =
    let a = c.args in end_off (geometry a.t.now) a.n a.first.y a.first.x a.from.y a.from.x a.v a.maps.now (sym c.ends_in.ensures ∙ c.if-not-ends_in.true)

pub enter_place-requires-clause-rows : goal.enter_place-requires-clause-rows
enter_place-requires-clause-rows c = let e = ends (goal.at.enter_place-requires-clause-rows c).Else-not-ends_in in rw c.end_of.ensures.y (record { after = e.rows.right; before = e.rows.left })

pub enter_place-requires-clause-columns : goal.enter_place-requires-clause-columns
enter_place-requires-clause-columns c = let e = ends (goal.at.enter_place-requires-clause-columns c).Else-not-ends_in in rw c.end_of.ensures.x (record { after = e.cols.right; before = e.cols.left })

pub enter_place-requires-clause-inside : goal.enter_place-requires-clause-inside
enter_place-requires-clause-inside c = rw c.end_of.ensures.x (ends (goal.at.enter_place-requires-clause-inside c).Else-not-ends_in).low

pub returns-clause-stored : goal.returns-clause-stored
returns-clause-stored c =
    let a = c.args in
    end_on (geometry a.t.now) a.n a.first.y a.first.x a.from.y a.from.x a.v a.maps.now (sym c.ends_in.ensures ∙ c.if-not-ends_in.false)
    c.end_of.result.y c.end_of.result.x c.end_of.ensures.y c.end_of.ensures.x c.enter_place.new.maps c.enter_place.ensures.stored
