-- `intops::round_shift` meets its contract. Assumes nothing.
use Rattle.std.proofs.Common.{◌≡◌, suc, ◌+◌, ◌-◌, ◌*◌, ◌%◌, ◌^◌, ◌≤◌, pow_mono, pos, ◌+ℤ◌, w64}
use lib.Signed.{lt_z}
use Rattle.intops.specs.Bounds.{Within}
use Rattle.intops.proofs.Signed.{signed, back, within_pos, within_add, within_sub, within_bool, within_shr, fits_within}
use Rattle.intops.proofs.Bits.{one_shl}
use Rattle.intops.proofs.Rounding.{biased, shift_rounds}
use Rattle.intops.proofs.round_shift.Goals.{Start}
use Rattle.intops.proofs.round_shift.Goals as goal

-- `1 << (n - 1)`, half of the power
half_small : (s : Start) → 2 ^ (s.args.bits - 1) ≤ 2 ^ 31
half_small s = pow_mono {i = s.args.bits - 1} {j = 31} (omega signed)

half_is : (s : Start) → (1 * 2 ^ (s.args.bits - 1)) % 18446744073709551616 ≡ 2 ^ (s.args.bits - 1)
half_is s = one_shl 18446744073709551616 (s.args.bits - 1) (omega (signed, half_small s))

-- each number on the way fits
p_in : (s : Start) → Within (2 ^ 61) s.args.p
p_in s = record { within = omega signed }

half_in : (s : Start) → Within (2 ^ 31) (pos (2 ^ (s.args.bits - 1)))
half_in s = within_pos (half_small s)

sum_in : (s : Start) → Within (2 ^ 61 + 2 ^ 31) (s.args.p +ℤ pos (2 ^ (s.args.bits - 1)))
sum_in s = within_add (p_in s) (half_in s)

biased_in : (s : Start) → Within (2 ^ 61 + 2 ^ 31 + 1) (biased (2 ^ (s.args.bits - 1)) s.args.p)
biased_in s = within_sub (sum_in s) (within_bool (lt_z s.args.p (pos 0)))

pub returns : goal.returns
returns c =
    let s = (goal.at.returns c).Start in
    let f = s.ranges.p in let g = fits_within w64 tt (half_in s) in let h = fits_within w64 tt (sum_in s) in let b = fits_within w64 tt (biased_in s) in
    let r = fits_within w64 tt (within_shr (2 ^ s.args.bits) (biased_in s)) in
    let e : suc (s.args.bits - 1) ≡ s.args.bits = omega signed in
    rw (c.from.ensures, half_is s) (simp back (rw e at (shift_rounds (s.args.bits - 1) s.args.p)))
