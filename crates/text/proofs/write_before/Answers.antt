use Rattle.std.proofs.Common.{◌≡◌, ℕ, ◌+◌, ◌-◌, ◌^◌, ◌<◌, ◌≤◌, ap, List, ◌++◌, length, drop, arith, to_z-of_z}
use Rattle.std.specs.Fmt.{decimal}
use Rattle.std.proofs.lemmas.Fmt.{length-decimal-le}
use Rattle.std.proofs.lemmas.List.{drop-set}
use Rattle.itoa.proofs.Decimal.{minus_first}
use Rattle.text.proofs.write_before.Goals as goal

-- a number of 32 bits has at most ten digits
few : (m n : ℕ) → n < 2 ^ 32 → m ≡ n → length (decimal m) ≤ 10
few m n h e = length-decimal-le 10 m (omega arith) (omega arith) (omega arith)

pub write_digits-start-requires : goal.write_digits-start-requires
write_digits-start-requires c = (omega (arith, c.requires.room, few _ _ c.unsigned_abs.type_inv c.from.ensures), c.requires.within)

pub returns-then-n-ge0-clause-short : goal.returns-then-n-ge0-clause-short
returns-then-n-ge0-clause-short c = omega (arith, c.write_digits-start.ensures.start, few _ _ c.unsigned_abs.type_inv c.from.ensures)

pub overflow_sub-line : goal.overflow_sub-line
overflow_sub-line c = omega (arith, c.requires.room, c.write_digits-start.ensures.start, few _ _ c.unsigned_abs.type_inv c.from.ensures)

pub overflow_sub-result : goal.overflow_sub-result
overflow_sub-result c = omega (arith, c.requires.room, c.write_digits-start.ensures.start, few _ _ c.unsigned_abs.type_inv c.from.ensures)

pub returns-clause-short : goal.returns-clause-short
returns-clause-short c = omega (arith, c.write_digits-start.ensures.start, few _ _ c.unsigned_abs.type_inv c.from.ensures)

pub returns-clause-written : goal.returns-clause-written
returns-clause-written c =
    let w = c.write_digits-start in
    let some : 1 ≤ w.result = omega (arith, c.requires.room, w.ensures.start, few _ _ c.unsigned_abs.type_inv c.from.ensures) in
    let e : w.result - 1 + 1 ≡ w.result = omega arith in
    let back = to_z-of_z c.ranges.n in
    rw (drop-set w.new.buf (w.result - 1) 45 (omega arith), e, w.ensures.written, c.from.ensures, c.unsigned_abs.ensures.value, back)
    (ap (λ (t : List ℕ). t ++ drop c.args.end c.args.line.now) (minus_first c.args.n (rw back at c.if-n-ge0.false)))
