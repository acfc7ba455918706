-- `leaf_cases::cells_of` meets its contract: what it answers meets what the averages require. Assumes nothing.
use Rattle.std.proofs.Common.{arith, rules, false, ◌≡◌, refl, ℕ, ◌*◌, ◌≤◌, ℤ, pos, nat_abs, ◌-ℤ◌, ◌*ℤ◌, w64, SFits}
use lib.Signed.{lt_z}
use Rattle.intops.proofs.Signed.{signed, back, ud, ud_minus, ud_mul, ud_neg, within_of, within_pos, within_mul, within_sub, fits_within}
use Rattle.intops.specs.Bounds.{Within}
use Rattle.mv.specs.Averages.{SumOf}
use Rattle.cases.proofs.Elements.{if_fits}
use Rattle.leaf_cases.proofs.cells_of.Goals as goal

-- what the two tests of n, and then the two of the sum, show
within_most : (n : ℤ) (most : ℕ) → most ≤ 255 → lt_z n (pos 1) ≡ false → lt_z (pos most) n ≡ false → Within 255 n
within_most n most m h k = within_of n (omega (signed, ud n, m))

sum_of : (n sum : ℤ) → lt_z n (pos 1) ≡ false → lt_z sum (pos 0 -ℤ n *ℤ pos 2147483648) ≡ false → lt_z (n *ℤ pos 2147483647) sum ≡ false → SumOf (nat_abs n) sum
sum_of n sum h low high = record {
  low = omega (signed, ud n, ud_mul n (pos 2147483648), ud_minus (pos 0) (n *ℤ pos 2147483648), ud_neg (pos (nat_abs n * 2147483648)));
  high = omega (signed, ud n, ud_mul n (pos 2147483647));
}

-- each product and its negation fits
product : (n : ℤ) (k : ℕ) → Within 255 n → k ≤ 2147483648 → SFits w64 (n *ℤ pos k) × SFits w64 (pos 0 -ℤ n *ℤ pos k)
product n k w l =
    let p = within_mul w (within_pos {m = k} {n = 2147483648} l) in (fits_within w64 tt p, fits_within w64 tt (within_sub (within_pos {m = 0} {n = 0} (omega signed)) p))

pub returns : goal.returns
returns c =
    let n = c.args.n in
    let f = c.ranges.n in
    let g = c.ranges.sum in
    let h : SFits w64 c.from.result = search rules in
    let b : c.args.most ≤ 255 = omega (arith, c.ranges.most) in
    let low = simp back at c.if-n-lt1.false in
    let high = rw c.from.ensures at (simp back at c.if-from-n.false) in
    let w = within_most n c.args.most b low high in
    let (p, m) = product n 2147483648 w (omega signed) in
    let (q, k) = product n 2147483647 w (omega signed) in
    let r = simp back at c.try_from.ensures in
    record {
      some = rw c.ok.ensures.value (if_fits c.try_from.result _ r (λ _. omega (signed, ud n, low)));
      most = rw c.ok.ensures.value (if_fits c.try_from.result _ r (λ _. omega (signed, ud n, low, high)));
      sum = rw c.ok.ensures.value (if_fits c.try_from.result _ r (λ _. sum_of n c.args.sum low (simp back at c.if-sum-n.false) (simp back at c.if-n-sum.false)));
      stated = rw c.ok.ensures.value (if_fits c.try_from.result _ r (λ _. refl));
    }
