-- `framefile::put_present` meets its contract. Assumes nothing.
use Rattle.std.proofs.Common.{true, false, ◌≡◌, ◌+◌, ◌*◌, ◌≤◌, arith, length, get_or}
use borrow.Author.Tests.{not-true, not-false}
use Rattle.loops.proofs.Turns.{row_within}
use Rattle.framefile.proofs.Bounds.{cells_low}
use Rattle.framefile.proofs.Planes.{plane_within}
use Rattle.framefile.proofs.put_present.Goals as goal

pub returns-then-not-l-k : goal.returns-then-not-l-k
returns-then-not-l-k c = let a = c.args in let t : get_or a.l.present a.k false ≡ false = not-true (get_or a.l.present a.k false) c.if-not-l-k.true-raw in rw t

pub put_plane-requires : goal.put_plane-requires
put_plane-requires c =
    let a = c.args in
    let t : get_or a.l.present a.k false ≡ true = not-false (get_or a.l.present a.k false) c.if-not-l-k.false-raw in
    let e : c.plane_at-from.result + 6 * (a.l.rows.high * a.l.rows.wide) ≤ length a.b.now = omega (arith, c.plane_at-from.ensures, plane_within a.l.present a.l.columns a.l.rows.wide a.l.rows.high a.k c.requires.slot t, c.requires.in_file) in
    record { in_file = e; room = omega (arith, row_within a.k 7 (6 * (a.l.rows.high * a.l.rows.stride)) c.requires.slot, cells_low a.l.rows.high a.l.rows.stride a.l.rows.high_low a.l.rows.stride_low, c.requires.room) }

pub returns : goal.returns
returns c = let a = c.args in let t : get_or a.l.present a.k false ≡ true = not-false (get_or a.l.present a.k false) c.if-not-l-k.false-raw in rw t (rw c.plane_at-from.ensures at c.put_plane.ensures)
