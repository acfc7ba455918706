-- `framefile::put_plane` meets its contract. Assumes nothing.
use Rattle.std.proofs.Common.{◌≡◌, refl, ◌+◌, ◌-◌, ◌*◌, arith, rules}
use Rattle.loops.proofs.Turns.{turned, ended, row_within}
use Rattle.framefile.specs.File.{put_plane_row, put_plane}
use Rattle.framefile.proofs.Bounds.{cells_low}
use Rattle.framefile.proofs.put_plane.Goals as goal

pub loop-y-init : goal.loop-y-init
loop-y-init c = (refl, refl)

pub put_row-requires : goal.put_row-requires
put_row-requires c = omega (arith, row_within c.loop-y.y c.args.rows.high c.args.rows.wide c.loop-y-test.true, row_within c.loop-y.y c.args.rows.high c.args.rows.stride c.loop-y-test.true, cells_low c.args.rows.high c.args.rows.stride c.args.rows.high_low c.args.rows.stride_low, c.args.rows.narrow, c.requires.in_file, c.requires.room)

pub loop-y-preserved : goal.loop-y-preserved
loop-y-preserved c =
    let l = c.loop-y in
    let a = c.args in
    let row = a.from + 6 * (l.y * a.rows.wide) in
    let e : row + 6 * a.rows.wide - row ≡ 6 * a.rows.wide = omega arith in
    (search rules, turned (put_plane_row a.b.now a.from a.rows.wide a.rows.stride a.at) a.rows.high l.y l.planes _ _ c.loop-y-test.true (rw e at c.put_row.ensures) l.invariant.1)

pub returns : goal.returns
unfolding put_plane
returns c = ended _ _ _ _ _ c.loop-y-test.false c.loop-y.invariant.1
