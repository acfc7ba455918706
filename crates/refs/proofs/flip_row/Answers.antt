-- `refs::flip_row` meets its contract. Assumes nothing.
use Rattle.std.proofs.Common.{ap, Bool, ◌+◌, ◌*◌, ◌^◌, arith}
use mir.Val.{bool_byte}
use Rattle.loops.proofs.Turns.{turned}
use Rattle.refs.specs.Refs.{add_flip}
use Rattle.refs.proofs.Masks.{bit_is, bit_le, pow_next}
use Rattle.refs.proofs.flip_row.Goals as goal

pub loop-n-preserved : goal.loop-n-preserved
loop-n-preserved c =
    let l = c.loop-n in let a = c.args in let h = a.h.now.hints.pocs in let f = c.flip-f.result in
    rw (c.from.ensures, bit_is f l.n (omega arith)) (
      omega (arith, bit_le f l.n, pow_next l.n),
      turned (add_flip h a.sign.now a.i) h.n_refs l.n l.r _ _ c.loop-n-test.true (ap (λ (b : Bool). l.r + bool_byte b * 2 ^ l.n) c.flip-f.ensures) l.invariant.1,
    )
