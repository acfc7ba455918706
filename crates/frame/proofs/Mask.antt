-- The mask of used slots, bit after bit. Assumes nothing.
use Rattle.std.proofs.Common.{◌≡◌, Bool, List, ℕ, zero, suc, ◌+◌, ◌*◌, ◌^◌, ◌%◌, ◌<◌, ◌≤◌, ◌||◌, false, get_or, arith, mod-eq_of_lt}
use mir.Val.{bool_byte}
use Rattle.refs.proofs.Masks.{bit_le, pow_next, pow_small}
use Rattle.frame.specs.Frame.{used, mask_of}

-- the first k bits of the mask
unfoldable pub bits : List Bool → ℕ → ℕ
bits t zero = 0
bits t (suc k) = bits t k + used t k * 2 ^ k

pub bits_low : (t : List Bool) (k : ℕ) → bits t k < 2 ^ k
unfolding bits
bits_low t zero = omega arith
bits_low t (suc k) =
    let n : suc k ≡ k + 1 = omega arith in
    rw n (omega (arith, bits_low t k, pow_next k, bit_le (get_or t (2 * k) false || get_or t (2 * k + 1) false) k))

pub bit_is : (t : List Bool) (k : ℕ) → k < 7 → (used t k * 2 ^ k) % 256 ≡ used t k * 2 ^ k
bit_is t k h = mod-eq_of_lt (omega (arith, bit_le (get_or t (2 * k) false || get_or t (2 * k + 1) false) k, pow_small k (omega arith)))

pub next : (t : List Bool) (k : ℕ) → bits t (k + 1) ≡ bits t k + used t k * 2 ^ k
unfolding bits
next t k = let n : k + 1 ≡ suc k = omega arith in rw n

pub mask_is : (t : List Bool) → bits t 7 ≡ mask_of t
unfolding bits mask_of
mask_is t = omega arith
