-- `landing::landing` meets its contract. Assumes nothing.
use Rattle.std.proofs.Common.{◌<◌, ◌≡◌, arith, neg_ℤ, w32, SFits, to_z, of_z, rules}
use Rattle.intops.proofs.Signed.{back}
use Rattle.tile.specs.Layout.{cells_of}
use Rattle.tile.specs.Tiles.{geometry}
use Rattle.tile.proofs.Places.{step_le}
use Rattle.tile.proofs.Moves.{moved_low}
use Rattle.project.specs.Project.{lands}
use Rattle.landing.proofs.landing.Goals.{After-back_cells-dx, After-back_cells-dy, After-moved_by-y1}
use Rattle.landing.proofs.landing.Goals as goal

dy_is : (c : After-back_cells-dy) → to_z w32 (of_z w32 c.back_cells-dy.result) ≡ neg_ℤ (cells_of c.args.w.y)
dy_is c =
    let f : SFits w32 c.args.w.y = search rules in let g : SFits w32 c.back_cells-dy.result = search rules in
    simp back (simp back at c.back_cells-dy.ensures)

dx_is : (c : After-back_cells-dx) → to_z w32 (of_z w32 c.back_cells-dx.result) ≡ neg_ℤ (cells_of c.args.w.x)
dx_is c =
    let f : SFits w32 c.args.w.x = search rules in let g : SFits w32 c.back_cells-dx.result = search rules in
    simp back (simp back at c.back_cells-dx.ensures)

low : (c : After-moved_by-y1) → c.moved_by-y1.result < 8589934592
low c =
    let k = c.args.t.now.sound in let g : SFits w32 c.back_cells-dy.result = search rules in
    rw (simp back at c.moved_by-y1.ensures) (moved_low c.args.from.y c.back_cells-dy.result g (omega (arith, c.requires.row, k.frame_end, k.high_low)))

pub same_rows-requires : goal.same_rows-requires
same_rows-requires c =
    omega (arith, c.on_step-y.ensures, step_le (geometry c.args.t.now) c.args.t.now.sound c.moved_by-y1.result, low (goal.at.same_rows-requires c).After-moved_by-y1)

pub returns : goal.returns
unfolding lands
returns c =
    rw (
      c.then_some.ensures,
      c.near_source.ensures,
      c.same_rows.ensures,
      c.on_step-x.ensures,
      c.on_step-y.ensures,
      c.is_there-2.ensures,
      c.is_there.ensures,
      c.moved_by-x1.ensures,
      c.moved_by-y1.ensures,
      dx_is (goal.at.returns c).After-back_cells-dx,
      dy_is (goal.at.returns c).After-back_cells-dy,
    )
