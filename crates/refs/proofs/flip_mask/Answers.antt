-- `refs::flip_mask` meets its contract. Assumes nothing.
use Rattle.std.proofs.Common.{◌≡◌, ap, ℕ, ◌+◌, ◌<◌, arith, ◌*◌, ◌%◌, ◌^◌}
use Rattle.loops.proofs.Turns.{turned}
use Rattle.refs.specs.Refs.{add_row}
use Rattle.refs.proofs.Masks.{row_lt, row_le, row_is, row_next, row_small}
use Rattle.refs.proofs.flip_mask.Goals.{After-flip_row}
use Rattle.refs.proofs.flip_mask.Goals as goal

row : (c : After-flip_row) → let l = c.loop-i in
    (c.flip_row.result < 128) × ((c.flip_row.result * 2 ^ (8 * l.i)) % 18446744073709551616 ≡ c.flip_row.result * 2 ^ (8 * l.i))
row c =
    let l = c.loop-i in let h = c.args.h.now in
    let b : c.flip_row.result < 128 = rw c.flip_row.ensures (row_lt h.hints.pocs c.args.sign.now l.i h.few_slots) in
    (b, row_is c.flip_row.result l.i b (omega arith))

pub overflow_add-m : goal.overflow_add-m
overflow_add-m c = let l = c.loop-i in let (b, e) = row c in rw e (omega (arith, row_le c.flip_row.result l.i b, row_small l.i (omega arith)))

pub loop-i-preserved : goal.loop-i-preserved
loop-i-preserved c =
    let l = c.loop-i in let a = c.args in let h = a.h.now.hints.pocs in let (b, e) = row c in
    rw e (
      omega (arith, row_le c.flip_row.result l.i b, row_next l.i),
      turned (add_row h a.sign.now) h.n_refs l.i l.m _ _ c.loop-i-test.true (ap (λ (r : ℕ). l.m + r * 2 ^ (8 * l.i)) c.flip_row.ensures) l.invariant.1,
    )
