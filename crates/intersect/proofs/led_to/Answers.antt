-- `intersect::led_to` meets its contract. Assumes nothing.
use Rattle.std.proofs.Common.{rules, ◌≡◌, ◌∙◌, ◌<◌, w32, SFits}
use Rattle.intops.proofs.Signed.{back}
use Rattle.tile.specs.Layout.{there, moved}
use Rattle.tile.proofs.Moves.{moved_low}
use Rattle.traj.specs.Traj.{leads}
use Rattle.intersect.proofs.Ways.{then_some_is}
use Rattle.intersect.proofs.led_to.Goals.{After-is_there-2, After-moved_by-x, After-moved_by-y}
use Rattle.intersect.proofs.led_to.Goals as goal

y_is : (c : After-moved_by-y) → let a = c.args in (c.moved_by-y.result ≡ moved a.h.now.at.y a.m.y) × (c.moved_by-y.result < 8589934592)
y_is c =
    let a = c.args in let f : SFits w32 a.m.y = search rules in
    let e : c.moved_by-y.result ≡ moved a.h.now.at.y a.m.y = simp back at c.moved_by-y.ensures in
    (e, rw e (moved_low a.h.now.at.y a.m.y f c.requires.low.y))

x_is : (c : After-moved_by-x) → let a = c.args in (c.moved_by-x.result ≡ moved a.h.now.at.x a.m.x) × (c.moved_by-x.result < 8589934592)
x_is c =
    let a = c.args in let f : SFits w32 a.m.x = search rules in
    let e : c.moved_by-x.result ≡ moved a.h.now.at.x a.m.x = simp back at c.moved_by-x.ensures in
    (e, rw e (moved_low a.h.now.at.x a.m.x f c.requires.low.x))

there_is : (c : After-is_there-2) → let a = c.args in (c.is_there.result ≡ there a.h.now.at.y a.m.y) × (c.is_there-2.result ≡ there a.h.now.at.x a.m.x)
there_is c =
    let f : SFits w32 c.args.m.y = search rules in let g : SFits w32 c.args.m.x = search rules in
    (simp back at c.is_there.ensures, simp back at c.is_there-2.ensures)

pub returns : goal.returns
unfolding leads
returns c =
    let h = there_is (goal.at.returns c).After-is_there-2 in
    c.then_some.ensures ∙ then_some_is _ _
    ∙ rw (h.0, h.1, c.in_blocks.ensures, c.near_col.ensures, c.near_col-2.ensures, c.same_rows.ensures, c.same_rows-2.ensures, (y_is (goal.at.returns c).After-moved_by-y).0, (x_is (goal.at.returns c).After-moved_by-x).0, c.requires.block, c.requires.some)
