-- The laws of `round_div`. Assumes nothing.
use Rattle.std.proofs.Common.{◌≡◌, refl, sym, ap, ℕ, zero, suc, ◌+◌, ◌*◌, ◌-◌, ◌/◌, ◌^◌, ◌≤◌, ◌<◌, min, ℤ, pos, negsuc, neg_ℤ, nat_abs, ◌+ℤ◌, ◌-ℤ◌, ◌*ℤ◌, div-add-mod', mod-lt, div-lt_iff_lt-mul, mul-zero, mul_comm, suc-mul, arith}
use Rattle.std.proofs.Math.Nat.{div-eq_of_lt, zero-div}
use Rattle.std.proofs.Math.Decide.{dec_lt}
use Rattle.std.proofs.Math.Pow.{suc_ones}
use lib.Signed.{lt_z, shr_z}
use mir.Val.{bool_byte}
use Rattle.intops.specs.Choice.{with_sign}
use Rattle.intops.specs.Rounding.{round_div, Nearest}
use Rattle.intops.proofs.Signed.{signed, up, dn, ud, ud_add, ud_minus, ud_neg, ud_shr, ud_bit, abs_neg}

-- the sum whose shift rounds, with half of the power
abbrev pub biased : ℕ → ℤ → ℤ
biased h p = p +ℤ pos h -ℤ pos (bool_byte (lt_z p (pos 0)))

-- half of the power is suc g
shift_go : (g : ℕ) (p : ℤ) → shr_z (biased (suc g) p) (suc (g + suc g)) ≡ with_sign p ((nat_abs p + suc g) / suc (g + suc g))
shift_go g (pos n) =
    let x : ℤ = biased (suc g) (pos n) in let m : ℕ = g + suc g in
    let f = ud_minus (pos n +ℤ pos (suc g)) (pos (bool_byte (lt_z (pos n) (pos 0)))) in let b = ud_bit (pos n) in
    let u : up x ≡ n + suc g = omega signed in let d : dn x ≡ 0 = omega signed in
    omega (signed, ud_shr x m, ap (λ (k : ℕ). k / suc m) u, ap (λ (k : ℕ). (k + m) / suc m) d, div-eq_of_lt {n = 0 + m} {m = suc m} (omega signed))
shift_go g (negsuc n) = neg (dec_lt g (suc n))
  where
    x : ℤ
    x = biased (suc g) (negsuc n)

    m : ℕ
    m = g + suc g

    parts : (up x + suc n ≡ dn x + g) × (min (up x) (dn x) ≡ 0)
    parts = let f = ud_minus (negsuc n +ℤ pos (suc g)) (pos (bool_byte (lt_z (negsuc n) (pos 0)))) in let a = ud_add (negsuc n) (pos (suc g)) in let b = ud_bit (negsuc n) in omega signed

    neg : Dec (g < suc n) → shr_z x (suc m) ≡ with_sign (negsuc n) ((suc n + suc g) / suc m)
    neg (yes l) =
        let u : up x ≡ 0 = omega (signed, parts) in let d : dn x + m ≡ suc n + suc g = omega (signed, parts) in
        omega (signed, ud_shr x m, ap (λ (k : ℕ). k / suc m) u, zero-div (suc m), ap (λ (k : ℕ). k / suc m) d, ud_neg (pos ((suc n + suc g) / suc m)))
    neg (no f) =
        let u : up x < suc m = omega (signed, parts) in let d : dn x ≡ 0 = omega (signed, parts) in
        omega (signed, ud_shr x m, div-eq_of_lt u, ap (λ (k : ℕ). (k + m) / suc m) d, div-eq_of_lt {n = 0 + m} {m = suc m} (omega signed), div-eq_of_lt {n = suc n + suc g} {m = suc m} (omega signed), ud_neg (pos ((suc n + suc g) / suc m)))

shift_eq : (h m k g : ℕ) (p : ℤ) → h ≡ suc g → m ≡ suc (g + suc g) → k ≡ h → shr_z (biased h p) m ≡ with_sign p ((nat_abs p + k) / m)
shift_eq h m k g p e f i = rw (i, f, e) (shift_go g p)

-- `(p + 2^j - (p < 0)) >> (j + 1)` rounds to nearest, halves away from zero
pub shift_rounds : (j : ℕ) (p : ℤ) → shr_z (biased (2 ^ j) p) (2 ^ suc j) ≡ round_div (2 ^ suc j) p
unfolding round_div
shift_rounds j p = shift_eq (2 ^ j) (2 ^ suc j) (2 ^ suc j / 2) (2 ^ j - 1) p (sym (suc_ones j)) (omega (signed, suc_ones j)) (omega signed)

-- the quotient of a magnitude n with half of d added
abbrev pub quot : ℕ → ℕ → ℕ
quot d n = (n + d / 2) / d

quot_near : (d n : ℕ) → 0 < d → (n + d / 2 < quot d n * d + d) × (quot d n * d ≤ n + d / 2)
quot_near d n p = omega (arith, div-add-mod' (n + d / 2) d, mod-lt (n + d / 2) p)

quot_le : (d n m : ℕ) → 0 < d → n ≤ m * d → quot d n ≤ m
quot_le d n m p h = let l : n + d / 2 < suc m * d = omega (arith, suc-mul m d) in omega (arith, (div-lt_iff_lt-mul p).1 l)

-- a bound on each side, as d times another, is kept as that other
pub round_between : (d a b : ℕ) (z : ℤ) → 0 < d → up z ≤ a * d → dn z ≤ b * d → (up (round_div d z) ≤ a) × (dn (round_div d z) ≤ b)
unfolding round_div
round_between d a b (pos n) p u v = omega (arith, quot_le d n a p u)
round_between d a b (negsuc n) p u v = omega (arith, quot_le d (suc n) b p v, ud_neg (pos (quot d (suc n))))

mul_neg : (d q : ℕ) → pos d *ℤ neg_ℤ (pos q) ≡ neg_ℤ (pos (d * q))
mul_neg d zero = rw mul-zero
mul_neg d (suc q) = refl

-- what is nearest is nearest on the other side of 0
pub nearest_neg : (d n q : ℕ) → Nearest d (pos n) (pos q) → Nearest d (neg_ℤ (pos n)) (neg_ℤ (pos q))
nearest_neg d n q h =
    let a = pos n -ℤ pos (d * q) in let b = neg_ℤ (pos n) -ℤ neg_ℤ (pos (d * q)) in
    let e : nat_abs b ≡ nat_abs a = omega (arith, ud a, ud b, ud_minus (pos n) (pos (d * q)), ud_minus (neg_ℤ (pos n)) (neg_ℤ (pos (d * q))), ud_neg (pos n), ud_neg (pos (d * q))) in
    record { near = rw (mul_neg, e) h.near; away = rw (mul_neg, e, abs_neg n, abs_neg q) h.away }

near_pos : (d n : ℕ) → 0 < d → Nearest d (pos n) (pos (quot d n))
near_pos d n p =
    let q = quot d n in let a = quot_near d n p in let c = mul_comm d q in
    let x = pos n -ℤ pos (d * q) in let f = ud_minus (pos n) (pos (d * q)) in let g = ud x in
    record { near = omega arith; away = λ e. omega arith }

-- `round_div` gives the nearest whole number
pub round_nearest : (d : ℕ) (z : ℤ) → 0 < d → Nearest d z (round_div d z)
unfolding round_div
round_nearest d (pos n) p = near_pos d n p
round_nearest d (negsuc n) p = nearest_neg d (suc n) (quot d (suc n)) (near_pos d (suc n) p)

-- of the negation of a number, the negation
pub round_neg : (d n : ℕ) → 0 < d → round_div d (neg_ℤ (pos n)) ≡ neg_ℤ (pos (quot d n))
unfolding round_div
round_neg d zero p = let e : 0 + d / 2 < d = omega arith in rw (div-eq_of_lt e)
round_neg d (suc n) p = refl
