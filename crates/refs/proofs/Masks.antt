-- The sizes of the flip mask. Assumes nothing.
use Rattle.std.proofs.Common.{◌≡◌, Bool, true, false, List, ℕ, zero, suc, ◌+◌, ◌*◌, ◌-◌, ◌%◌, ◌^◌, ◌<◌, ◌≤◌, arith, mod-eq_of_lt, one-mul, zero-mul, mul-le-mul_right, pow_mono, pow-add}
use mir.Val.{bool_byte}
use Rattle.loops.specs.Over.{over, span}
use Rattle.picks.specs.declared.Pocs.{Pocs}
use Rattle.refs.specs.Refs.{flips, add_flip, flip_row}

pub bit_le : (b : Bool) (n : ℕ) → bool_byte b * 2 ^ n ≤ 2 ^ n
bit_le true n = omega (arith, one-mul (2 ^ n))
bit_le false n = omega (arith, zero-mul (2 ^ n))

pub pow_next : (n : ℕ) → 2 ^ (n + 1) ≡ 2 * 2 ^ n
pow_next n = omega (arith, pow-add 2 n 1)

pub pow_small : (n : ℕ) → n ≤ 7 → 2 ^ n ≤ 128
pow_small n h = pow_mono {i = n} {j = 7} h

pub bit_is : (b : Bool) (n : ℕ) → n ≤ 7 → (bool_byte b * 2 ^ n) % 18446744073709551616 ≡ bool_byte b * 2 ^ n
bit_is b n h = mod-eq_of_lt (omega (arith, bit_le b n, pow_small n h))

row_go : (h : Pocs) (sg : List Bool) (i k p r : ℕ) → r < 2 ^ p → over (add_flip h sg i) 1 k p r < 2 ^ (p + k)
unfolding over
row_go h sg i zero p r l = let e : p + 0 ≡ p = omega arith in rw e l
row_go h sg i (suc k) p r l =
    let e : p + suc k ≡ p + 1 + k = omega arith in
    rw e (row_go h sg i k (p + 1) _ (omega (arith, pow_next p, bit_le (flips h sg i p) p)))

pub row_lt : (h : Pocs) (sg : List Bool) (i : ℕ) → h.n_refs ≤ 7 → flip_row h sg i < 128
unfolding flip_row span
row_lt h sg i l = omega (arith, row_go h sg i (h.n_refs - 0) 0 0 (omega arith), pow_small (0 + (h.n_refs - 0)) (omega arith))

-- a row, moved to its place
pub row_le : (r i : ℕ) → r < 128 → r * 2 ^ (8 * i) ≤ 127 * 2 ^ (8 * i)
row_le r i h = mul-le-mul_right (2 ^ (8 * i)) (omega arith)

pub row_next : (i : ℕ) → 2 ^ (8 * (i + 1)) ≡ 256 * 2 ^ (8 * i)
row_next i = let e : 8 * (i + 1) ≡ 8 * i + 8 = omega arith in rw e (omega (arith, pow-add 2 (8 * i) 8))

pub row_small : (i : ℕ) → i ≤ 7 → 2 ^ (8 * i) ≤ 72057594037927936
row_small i h = pow_mono {i = 8 * i} {j = 56} (omega arith)

pub row_is : (r i : ℕ) → r < 128 → i < 7 → (r * 2 ^ (8 * i)) % 18446744073709551616 ≡ r * 2 ^ (8 * i)
row_is r i h l = mod-eq_of_lt (omega (arith, row_le r i h, row_small i (omega arith)))
