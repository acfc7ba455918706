-- The place of the highest one bit, and powers of two. Assumes nothing.
use Rattle.std.proofs.Common.{◌≡◌, sym, ap, ◌∙◌, ℕ, zero, suc, ◌+◌, ◌*◌, ◌%◌, ◌^◌, ◌≤◌, ◌<◌, arith, mod-eq_of_lt, one-mul, pow_mono, le-leb}
use Rattle.std.proofs.Math.Decide.{dec_lt, dec_le}
use lib.Count.{count_leading_zeros, leading_top}
use borrow.Author.Tests.{lt-leb}
use Rattle.intops.specs.Bits.{highest_from, highest_bit}

pub pow_cancel : (a b : ℕ) → 2 ^ a < 2 ^ b → a < b
pow_cancel a b h = go (dec_lt a b)
  where
    go : Dec (a < b) → a < b
    go (yes p) = p
    go (no f) = absurd (omega (arith, pow_mono {i = b} {j = a} (omega arith)))

-- the place j is the one that `highest_from` finds: one step, given what the lower places find
highest_step : (k j m : ℕ) → (j ≤ k → highest_from k m ≡ j) → j ≤ suc k → 2 ^ j ≤ m → m < 2 ^ suc j → Dec (j ≤ k) → highest_from (suc k) m ≡ j
unfolding highest_from
highest_step k j m below l a b (yes p) = rw (lt-leb (2 ^ suc k) m (omega (arith, pow_mono {i = suc j} {j = suc k} (omega arith)))) (below p)
highest_step k j m below l a b (no f) = let e : j ≡ suc k = omega arith in rw (le-leb (2 ^ suc k) m (rw (← e) a)) (sym e)

pub highest_is : (k j m : ℕ) → j ≤ k → 2 ^ j ≤ m → m < 2 ^ suc j → highest_from k m ≡ j
unfolding highest_from
highest_is zero j m l a b = omega arith
highest_is (suc k) j m l a b = highest_step k j m (λ h. highest_is k j m h a b) l a b (dec_le j k)

-- of a number of 32 bits that is not 0: its place, with what bounds it, and the machine's way to it
pub record Top (m : ℕ) : Type 0 where
  pub place : ℕ
  pub is : highest_bit m ≡ place
  pub zeros : count_leading_zeros 32 m + suc place ≡ 32
  pub low : 2 ^ place ≤ m
  pub high : m < 2 ^ suc place

pub top : (m : ℕ) → 0 < m → m < 2 ^ 32 → Top m
unfolding highest_bit
top m l h =
    let t = leading_top 32 m l h in
    record { place = t.0; is = highest_is 31 t.0 m (omega arith) t.2 t.3; zeros = t.1; low = t.2; high = t.3 }

-- `a << b`, which the machine has as a product cut to its width, where the product fits
pub one_shl : (n b : ℕ) → 2 ^ b < n → (1 * 2 ^ b) % n ≡ 2 ^ b
one_shl n b h = ap (λ (k : ℕ). k % n) (one-mul (2 ^ b)) ∙ mod-eq_of_lt h

pub shl_fits : (n a b : ℕ) → a * 2 ^ b < n → (a * 2 ^ b) % n ≡ a * 2 ^ b
shl_fits n a b h = mod-eq_of_lt h
