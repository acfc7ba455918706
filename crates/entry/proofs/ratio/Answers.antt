-- `entry::ratio` meets its contract. Assumes nothing.
use Rattle.std.proofs.Common.{◌≡◌, ℕ, true, false, ap, ◌∙◌, ◌*◌, pos, ◌-ℤ◌, w32, SFits}
use Rattle.intops.proofs.Signed.{back, signed, ud_minus, zero_minus}
use Rattle.entry.specs.Entry.{ratio_z, size, same_sign}
use Rattle.entry.proofs.Laws.{size_le}
use Rattle.entry.proofs.ratio.Goals.{After-from}
use Rattle.entry.proofs.ratio.Goals as goal

-- the size of the factor
size_is : (c : After-from) → c.min.result * c.from.result ≡ size c.args.a c.args.b
unfolding size
size_is c =
    let f = c.ranges.a in let g = c.ranges.b in
    let u = simp back at c.unsigned_abs.ensures.value in let v = simp back at c.unsigned_abs-2.ensures.value in
    rw (c.from.ensures, c.div_mult.ensures, c.min.ensures, c.min-2.ensures, u, v)

pub overflow_sub-result : goal.overflow_sub-result
overflow_sub-result c =
    let n = c.min.result * c.from.result in let e = size_is (goal.at.overflow_sub-result c).After-from in
    let f : SFits w32 (pos n) = omega (signed, e, size_le c.args.a c.args.b) in
    simp back (omega (signed, e, size_le c.args.a c.args.b, ud_minus (pos 0) (pos n)))

pub returns-then-a-b : goal.returns-then-a-b
unfolding ratio_z
returns-then-a-b c = let e = size_is (goal.at.returns-then-a-b c).After-from in
    let f = c.ranges.a in let g = c.ranges.b in let n = c.min.result * c.from.result in
    let k : SFits w32 (pos n) = omega (signed, e, size_le c.args.a c.args.b) in
    let h : same_sign c.args.a c.args.b ≡ true = simp back at c.if-a-b.true in
    rw h (simp back (ap pos e))

pub returns-else-a-b : goal.returns-else-a-b
unfolding ratio_z
returns-else-a-b c = let e = size_is (goal.at.returns-else-a-b c).After-from in
    let f = c.ranges.a in let g = c.ranges.b in let n = c.min.result * c.from.result in
    let k : SFits w32 (pos n) = omega (signed, e, size_le c.args.a c.args.b) in
    let m : SFits w32 (pos 0 -ℤ pos n) = omega (signed, e, size_le c.args.a c.args.b, ud_minus (pos 0) (pos n)) in
    let h : same_sign c.args.a c.args.b ≡ false = simp back at c.if-a-b.false in
    rw h (simp back (ap (λ (x : ℕ). pos 0 -ℤ pos x) e ∙ zero_minus (pos (size c.args.a c.args.b))))
