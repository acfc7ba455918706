-- The laws of the averages, and the theorems that specs/Averages.antt states. Assumes nothing.
use Rattle.std.proofs.Common.{◌≡◌, ap, ◌∙◌, ℕ, zero, suc, ◌+◌, ◌*◌, ◌-◌, ◌/◌, ◌^◌, ◌≤◌, ◌<◌, arith, mul-le-mul, mul_comm, mul_assoc, mul-zero, div-mul-le_self, pow_mono, pow_pos, ℤ, pos, negsuc, neg_ℤ, nat_abs, ◌+ℤ◌, ◌-ℤ◌, ◌*ℤ◌, w32, w64, SFits}
use Rattle.intops.specs.Bounds.{Within}
use Rattle.intops.specs.Rounding.{round_div, Nearest}
use Rattle.intops.proofs.Signed.{signed, signed!, up, dn, ud, ud_neg, ud_add, ud_minus, ud_mul}
use Rattle.intops.proofs.Rounding.{quot, round_between, nearest_neg, round_neg}
use Rattle.mv.specs.Averages.{average, smoothed, gap_mean, SumOf, Averaged, SmoothedNearest, GapNearest}

-- ---- an average has 32 bits

sum_between : (n : ℕ) (s : ℤ) → SumOf n s → (up s ≤ n * 2147483647) × (dn s ≤ n * 2147483648)
sum_between n s h =
    let l = h.low in let u = h.high in
    (omega (signed, ud s), omega (signed, ud s, ud_neg (pos (n * 2147483648))))

-- one component more, and few of them have 64 bits
pub sum_more : (n : ℕ) (s z : ℤ) → SumOf n s → SFits w32 z → SumOf (n + 1) (s +ℤ z)
sum_more n s z h f =
    let b = sum_between n s h in let a = ud_add s z in let v = ud z in let m = ud_neg (pos ((n + 1) * 2147483648)) in
    record { low = omega signed!; high = omega signed! }

pub sum_two : (a b : ℤ) → SFits w32 a → SFits w32 b → SumOf 2 (a +ℤ b)
sum_two a b f g =
    let s = ud_add a b in let u = ud a in let v = ud b in let m = ud_neg (pos (2 * 2147483648)) in
    record { low = omega signed!; high = omega signed! }

pub sum_wide : (n : ℕ) (s : ℤ) → n ≤ 5 → SumOf n s → SFits w64 s
sum_wide n s l h = let b = sum_between n s h in omega signed

-- (n * m) * k, where n * k is at most d
times : (a n m k d : ℕ) → a ≤ n * m → n * k ≤ d → a * k ≤ m * d
times a n m k d h l =
    let p : a * k ≤ (n * m) * k = mul-le-mul h (omega arith) in
    let q : m * (n * k) ≤ m * d = mul-le-mul (omega arith) l in
    let e : (n * m) * k ≡ m * (n * k) = rw (mul_comm n m) (mul_assoc m n k) in
    omega arith

-- the product of the sum and its reciprocal
pub product_between : (n : ℕ) (s : ℤ) (k bits : ℕ) → Averaged n s k bits → (up (s *ℤ pos k) ≤ 2147483647 * 2 ^ bits) × (dn (s *ℤ pos k) ≤ 2147483648 * 2 ^ bits)
product_between n s k bits h =
    let b = sum_between n s h.sum in let e = ud_mul s (pos k) in
    let u = times (up s) n 2147483647 k (2 ^ bits) b.0 h.part in
    let d = times (dn s) n 2147483648 k (2 ^ bits) b.1 h.part in
    let y = mul-zero (up s) in let z = mul-zero (dn s) in
    omega arith

pub product_within : (n : ℕ) (s : ℤ) (k bits : ℕ) → Averaged n s k bits → Within (2 ^ 47) (s *ℤ pos k)
product_within n s k bits h =
    let p = product_between n s k bits h in let l = pow_mono {i = bits} {j = 16} h.few in
    record { within = omega (arith, ud (s *ℤ pos k)) }

pub average_fits : (n : ℕ) (s : ℤ) (k bits : ℕ) → Averaged n s k bits → SFits w32 (round_div (2 ^ bits) (s *ℤ pos k))
average_fits n s k bits h =
    let p = product_between n s k bits h in
    let r = round_between (2 ^ bits) 2147483647 2147483648 (s *ℤ pos k) (pow_pos bits) p.0 p.1 in
    omega signed!

-- the whole part of 2^bits / n keeps what an average asks
pub averaged : (n : ℕ) (s : ℤ) (k bits : ℕ) → SumOf n s → k ≡ 2 ^ bits / n → 1 ≤ bits → bits ≤ 16 → Averaged n s k bits
averaged n s k bits h e l u = record { sum = h; part = rw (e, mul_comm n (2 ^ bits / n)) (div-mul-le_self (2 ^ bits) n); some = l; few = u }

-- the mean of one is that one
pub gap_alone : (z : ℤ) → gap_mean 1 z ≡ z
unfolding gap_mean round_div
gap_alone (pos m) = ap pos (omega arith)
gap_alone (negsuc m) =
    let e : quot 256 (suc m * 256) ≡ suc m = omega arith in
    round_neg 256 (suc m * 256) (omega arith) ∙ ap (λ (n : ℕ). neg_ℤ (pos n)) e

-- the mean of two that are one is that one
pub gap_twice : (z : ℤ) → gap_mean 2 (z +ℤ z) ≡ gap_mean 1 (pos 0 +ℤ z)
unfolding gap_mean
gap_twice z =
    let e : (z +ℤ z) *ℤ pos 128 ≡ (pos 0 +ℤ z) *ℤ pos 256 = let a = ud_add z z in let b = ud_add (pos 0) z in let f = ud_mul (z +ℤ z) (pos 128) in let g = ud_mul (pos 0 +ℤ z) (pos 256) in omega signed in
    ap (round_div 256) e

-- ---- it is the whole number nearest to the mean

-- by the sum's magnitude
by_magnitude : (d n : ℕ) (s : ℤ) → 0 < d → Nearest n (pos (nat_abs s)) (pos (quot d (nat_abs s * (d / n)))) → Nearest n s (average d n s)
unfolding round_div
by_magnitude d n (pos m) p h = h
by_magnitude d n (negsuc m) p h = rw (round_neg d (suc m * (d / n)) p) (nearest_neg n (suc m) (quot d (suc m * (d / n))) h)

-- a quotient q of numbers, and n times it, as `Nearest` has them
near_of : (n m q : ℕ) → 2 * (m - n * q) + 2 * (n * q - m) ≤ n → (2 * (m - n * q) + 2 * (n * q - m) ≡ n → m ≤ n * q) → Nearest n (pos m) (pos q)
near_of n m q h k =
    let a = pos m -ℤ pos (n * q) in let f = ud_minus (pos m) (pos (n * q)) in let g = ud a in
    record { near = omega arith; away = λ e. k (omega arith) }

-- one of five
pub five : (P : ℕ → Type 0) → P 1 → P 2 → P 3 → P 4 → P 5 → (n : ℕ) → 1 ≤ n → n ≤ 5 → P n
five P a b c d e zero l h = absurd (omega arith)
five P a b c d e (suc zero) l h = a
five P a b c d e (suc (suc zero)) l h = b
five P a b c d e (suc (suc (suc zero))) l h = c
five P a b c d e (suc (suc (suc (suc zero)))) l h = d
five P a b c d e (suc (suc (suc (suc (suc zero))))) l h = e
five P a b c d e (suc (suc (suc (suc (suc (suc n)))))) l h = absurd (omega arith)

pub smoothed_nearest : SmoothedNearest
unfolding smoothed
smoothed_nearest n s l h b =
    five (λ (n : ℕ). Nearest n s (average 65536 n s))
    (by_magnitude 65536 1 s (omega arith) (near_of 1 (nat_abs s) (quot 65536 (nat_abs s * 65536)) (omega arith) (λ e. omega arith)))
    (by_magnitude 65536 2 s (omega arith) (near_of 2 (nat_abs s) (quot 65536 (nat_abs s * 32768)) (omega arith) (λ e. omega arith)))
    (by_magnitude 65536 3 s (omega arith) (near_of 3 (nat_abs s) (quot 65536 (nat_abs s * 21845)) (omega arith) (λ e. omega arith)))
    (by_magnitude 65536 4 s (omega arith) (near_of 4 (nat_abs s) (quot 65536 (nat_abs s * 16384)) (omega arith) (λ e. omega arith)))
    (by_magnitude 65536 5 s (omega arith) (near_of 5 (nat_abs s) (quot 65536 (nat_abs s * 13107)) (omega arith) (λ e. omega arith)))
    n l h

pub gap_nearest : GapNearest
unfolding gap_mean
gap_nearest s = (
  by_magnitude 256 2 s (omega arith) (near_of 2 (nat_abs s) (quot 256 (nat_abs s * 128)) (omega arith) (λ e. omega arith)),
  by_magnitude 256 4 s (omega arith) (near_of 4 (nat_abs s) (quot 256 (nat_abs s * 64)) (omega arith) (λ e. omega arith)),
)
