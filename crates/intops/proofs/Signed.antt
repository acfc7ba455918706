-- The bridge from ℤ to ℕ for `omega`: each z is up z − dn z, one of the two 0. Assumes nothing.
use Rattle.std.proofs.Common.{◌≡◌, refl, sym, ap, ◌∙◌, subst, Bool, true, false, cond, ℕ, zero, suc, ◌+◌, ◌*◌, ◌-◌, ◌/◌, ◌%◌, ◌^◌, ◌≤◌, ◌<◌, max, min, arith, mul-le-mul, div-le_self, add-one, T, eqb, eqb→eq, ltb, leb, ltb→lt, leb→le, nltb→le, lt→ltb, le→leb, ℤ, pos, negsuc, neg_ℤ, nat_abs, ◌+ℤ◌, ◌-ℤ◌, ◌*ℤ◌, ◌≤ℤ◌, ◌<ℤ◌, w8, w16, w32, w64, Fits, SFits, to_z, of_z, to_z-of_z, pow_pos, rules, ltb-true, ltb-false, leb-true, leb-false, le-leb, le-ltb, eqb-true, eq-eqb, ne_eqb}
use Rattle.std.proofs.Math.Nat.{zero-div, zero-mod, div-eq_of_lt, add-div_right}
use Rattle.std.proofs.Math.IntN.{sub_ℕ}
use Rattle.std.proofs.Math.Facts.{to_z_pos, sfits_widen}
use Rattle.std.proofs.Math.Pow.{pow-lt}
use lib.Signed.{lt_z, le_z, non_neg, quot_z, rem_z, shr_z}
use mir.Syntax.{Width, w128}
use mir.Val.{bits, hbits, bool_byte}
use borrow.Author.Tests.{eqb-false}
use Rattle.intops.specs.Choice.{pick_z, eq_z, clip_z, with_sign}
use Rattle.intops.specs.Bounds.{Within}

abbrev pub up : ℤ → ℕ
up (pos n) = n
up (negsuc n) = 0

abbrev pub dn : ℤ → ℕ
dn (pos n) = 0
dn (negsuc n) = suc n

-- ---- a hypothesis about ℤ, as one about ℕ: rules for `omega`

pub lt_ud : (a b : ℤ) → lt_z a b ≡ true → up a + dn b < up b + dn a
lt_ud (pos a) (pos b) e = omega (arith, ltb-true a b e)
lt_ud (pos a) (negsuc b) e = let z : ◌≡◌ {A = ℕ} 0 1 = cc in omega arith
lt_ud (negsuc a) (pos b) e = omega arith
lt_ud (negsuc a) (negsuc b) e = omega (arith, ltb-true b a e)

pub ge_ud : (a b : ℤ) → lt_z a b ≡ false → up b + dn a ≤ up a + dn b
ge_ud (pos a) (pos b) e = omega (arith, ltb-false a b e)
ge_ud (pos a) (negsuc b) e = omega arith
ge_ud (negsuc a) (pos b) e = let z : ◌≡◌ {A = ℕ} 0 1 = cc in omega arith
ge_ud (negsuc a) (negsuc b) e = omega (arith, ltb-false b a e)

pub le_ud : (a b : ℤ) → le_z a b ≡ true → up a + dn b ≤ up b + dn a
le_ud (pos a) (pos b) e = omega (arith, leb-true a b e)
le_ud (pos a) (negsuc b) e = let z : ◌≡◌ {A = ℕ} 0 1 = cc in omega arith
le_ud (negsuc a) (pos b) e = omega arith
le_ud (negsuc a) (negsuc b) e = omega (arith, leb-true b a e)

pub gt_ud : (a b : ℤ) → le_z a b ≡ false → up b + dn a < up a + dn b
gt_ud (pos a) (pos b) e = omega (arith, leb-false a b e)
gt_ud (pos a) (negsuc b) e = omega arith
gt_ud (negsuc a) (pos b) e = let z : ◌≡◌ {A = ℕ} 0 1 = cc in omega arith
gt_ud (negsuc a) (negsuc b) e = omega (arith, leb-false b a e)

pub ≤-ud : (a b : ℤ) → a ≤ℤ b → up a + dn b ≤ up b + dn a
≤-ud (pos a) (pos b) h = omega (arith, leb→le a b h.le)
≤-ud (pos a) (negsuc b) h = absurd h.le
≤-ud (negsuc a) (pos b) h = omega arith
≤-ud (negsuc a) (negsuc b) h = omega (arith, leb→le b a h.le)

pub <-ud : (a b : ℤ) → a <ℤ b → up a + dn b < up b + dn a
<-ud (pos a) (pos b) h = omega (arith, ltb→lt a b h.lt)
<-ud (pos a) (negsuc b) h = absurd h.lt
<-ud (negsuc a) (pos b) h = omega arith
<-ud (negsuc a) (negsuc b) h = omega (arith, ltb→lt b a h.lt)

pub eq_ud : (a b : ℤ) → a ≡ b → up a + dn b ≡ up b + dn a
eq_ud a b e = subst (λ (z : ℤ). up a + dn z ≡ up z + dn a) e refl

-- no split, and loose by one at the top
pub fits_ud : (w : Width) (z : ℤ) → SFits w z → up z + dn z ≤ 2 ^ hbits w
fits_ud w (pos n) h = omega (arith, h.sfits)
fits_ud w (negsuc n) h = omega (arith, h.sfits)

-- exact
pub fits_ud! : (w : Width) (z : ℤ) → SFits w z → max (suc (up z)) (dn z) ≤ 2 ^ hbits w
fits_ud! w (pos n) h = omega (arith, h.sfits)
fits_ud! w (negsuc n) h = omega (arith, h.sfits)

-- ---- a goal about ℤ, from one about ℕ

pub ud_fits : (w : Width) (z : ℤ) → up z + dn z < 2 ^ hbits w → SFits w z
ud_fits w (pos n) h = record { sfits = omega arith }
ud_fits w (negsuc n) h = record { sfits = omega arith }

pub ud_fits! : (w : Width) (z : ℤ) → max (suc (up z)) (dn z) ≤ 2 ^ hbits w → SFits w z
ud_fits! w (pos n) h = record { sfits = omega arith }
ud_fits! w (negsuc n) h = record { sfits = omega arith }

pub ud_abs_fits : (w : Width) (z : ℤ) → up z + dn z < 2 ^ bits w → Fits w (nat_abs z)
ud_abs_fits w (pos n) h = record { fits = omega arith }
ud_abs_fits w (negsuc n) h = record { fits = omega arith }

pub ud_non_neg : (z : ℤ) → dn z < 1 → T (non_neg z)
ud_non_neg (pos n) h = tt
ud_non_neg (negsuc n) h = absurd (omega arith)

pub ud_eq : (a b : ℤ) → up a + dn b ≡ up b + dn a → a ≡ b
ud_eq (pos a) (pos b) h = ap pos (omega arith)
ud_eq (pos a) (negsuc b) h = absurd (omega arith)
ud_eq (negsuc a) (pos b) h = absurd (omega arith)
ud_eq (negsuc a) (negsuc b) h = ap negsuc (omega arith)

pub ud-≤ : (a b : ℤ) → up a + dn b ≤ up b + dn a → a ≤ℤ b
ud-≤ (pos a) (pos b) h = record { le = le→leb a b (omega arith) }
ud-≤ (pos a) (negsuc b) h = absurd (omega arith)
ud-≤ (negsuc a) (pos b) h = record { le = tt }
ud-≤ (negsuc a) (negsuc b) h = record { le = le→leb b a (omega arith) }

pub ud-< : (a b : ℤ) → up a + dn b < up b + dn a → a <ℤ b
ud-< (pos a) (pos b) h = record { lt = lt→ltb a b (omega arith) }
ud-< (pos a) (negsuc b) h = absurd (omega arith)
ud-< (negsuc a) (pos b) h = record { lt = tt }
ud-< (negsuc a) (negsuc b) h = record { lt = lt→ltb b a (omega arith) }

-- ---- what up and dn are of each operation: facts to list. A fact that is a pair counts by its parts

-- of a number: its magnitude is up or dn, and the other is 0
pub ud : (z : ℤ) → (nat_abs z ≡ up z + dn z) × (min (up z) (dn z) ≡ 0)
ud (pos n) = omega arith
ud (negsuc n) = omega arith

pub ud_neg : (z : ℤ) → (up (neg_ℤ z) ≡ dn z) × (dn (neg_ℤ z) ≡ up z)
ud_neg (pos zero) = (refl, refl)
ud_neg (pos (suc n)) = (refl, refl)
ud_neg (negsuc n) = (refl, refl)

-- a − b of two naturals
sub_go : (a b : ℕ) (t : Bool) → ltb a b ≡ t → up (cond t (negsuc (b - suc a)) (pos (a - b))) + b ≡ a + dn (cond t (negsuc (b - suc a)) (pos (a - b)))
sub_go a b true e = omega (arith, ltb-true a b e)
sub_go a b false e = omega (arith, ltb-false a b e)

pub ud_sub : (a b : ℕ) → up (sub_ℕ a b) + b ≡ a + dn (sub_ℕ a b)
ud_sub a b = sub_go a b (ltb a b) refl

add_go : (a b : ℤ) → up (a +ℤ b) + (dn a + dn b) ≡ dn (a +ℤ b) + (up a + up b)
add_go (pos a) (pos b) = omega arith
add_go (pos a) (negsuc b) = omega (arith, ud_sub a (suc b))
add_go (negsuc a) (pos b) = omega (arith, ud_sub b (suc a))
add_go (negsuc a) (negsuc b) = omega arith

pub ud_add : (a b : ℤ) → (up (a +ℤ b) + (dn a + dn b) ≡ dn (a +ℤ b) + (up a + up b)) × (min (up (a +ℤ b)) (dn (a +ℤ b)) ≡ 0)
ud_add a b = (add_go a b, (ud (a +ℤ b)).1)

pub ud_minus : (a b : ℤ) → (up (a -ℤ b) + (dn a + up b) ≡ dn (a -ℤ b) + (up a + dn b)) × (min (up (a -ℤ b)) (dn (a -ℤ b)) ≡ 0)
ud_minus a b = (omega (arith, add_go a (neg_ℤ b), ud_neg b), (ud (a -ℤ b)).1)

pub ud_mul : (a b : ℤ) → (up (a *ℤ b) ≡ up a * up b + dn a * dn b) × (dn (a *ℤ b) ≡ up a * dn b + dn a * up b)
ud_mul (pos a) (pos b) = omega arith
ud_mul (pos a) (negsuc b) = omega (arith, ud_neg (pos (a * suc b)))
ud_mul (negsuc a) (pos b) = omega (arith, ud_neg (pos (suc a * b)))
ud_mul (negsuc a) (negsuc b) = omega arith

pub abs_mul : (a b : ℤ) → nat_abs (a *ℤ b) ≡ nat_abs a * nat_abs b
abs_mul (pos a) (pos b) = omega arith
abs_mul (pos a) (negsuc b) = omega (arith, ud (neg_ℤ (pos (a * suc b))), ud_neg (pos (a * suc b)))
abs_mul (negsuc a) (pos b) = omega (arith, ud (neg_ℤ (pos (suc a * b))), ud_neg (pos (suc a * b)))
abs_mul (negsuc a) (negsuc b) = omega arith

-- a bound on a product, from a bound on each factor
pub mul_within : (a b : ℤ) {m n : ℕ} → nat_abs a ≤ m → nat_abs b ≤ n → nat_abs (a *ℤ b) ≤ m * n
mul_within a b h k = rw abs_mul (mul-le-mul h k)

-- a shift right: the quotient of up, and of dn rounded up. The power is written suc m, as `ud_shr z 16383` for `z >> 14`
pub ud_shr : (z : ℤ) (m : ℕ) → (up (shr_z z (suc m)) ≡ up z / suc m) × (dn (shr_z z (suc m)) ≡ (dn z + m) / suc m)
ud_shr (pos n) m = (refl, sym (div-eq_of_lt (omega arith)))
ud_shr (negsuc n) m = (sym (zero-div (suc m)), sym (ap (λ (k : ℕ). k / suc m) (omega arith) ∙ add-div_right n (omega arith) ∙ add-one (n / suc m)))

-- a quotient towards zero by a positive number, and its remainder
pub ud_quot : (z : ℤ) (m : ℕ) → (up (quot_z z (pos (suc m))) ≡ up z / suc m) × (dn (quot_z z (pos (suc m))) ≡ dn z / suc m)
ud_quot (pos n) m = (refl, sym (zero-div (suc m)))
ud_quot (negsuc n) m = ((ud_neg (pos (suc n / suc m))).0 ∙ sym (zero-div (suc m)), (ud_neg (pos (suc n / suc m))).1)

pub ud_rem : (z : ℤ) (m : ℕ) → (up (rem_z z (pos (suc m))) ≡ up z % suc m) × (dn (rem_z z (pos (suc m))) ≡ dn z % suc m)
ud_rem (pos n) m = (refl, sym (zero-mod (suc m)))
ud_rem (negsuc n) m = ((ud_neg (pos (suc n % suc m))).0 ∙ sym (zero-mod (suc m)), (ud_neg (pos (suc n % suc m))).1)

-- a test as a number: 1 where z is below 0
pub ud_bit : (z : ℤ) → bool_byte (lt_z z (pos 0)) ≡ min 1 (dn z)
ud_bit (pos n) = ap bool_byte (le-ltb n 0 (omega arith)) ∙ omega arith
ud_bit (negsuc n) = omega arith

hbits_pos : (w : Width) → 0 < hbits w
hbits_pos w8 = omega arith
hbits_pos w16 = omega arith
hbits_pos w32 = omega arith
hbits_pos w64 = omega arith
hbits_pos w128 = omega arith

pub to_z_bool : (w : Width) (b : Bool) → to_z w (bool_byte b) ≡ pos (bool_byte b)
to_z_bool w true = to_z_pos w (pow-lt {i = 0} {j = hbits w} (hbits_pos w))
to_z_bool w false = to_z_pos w (pow_pos (hbits w))

-- 0 adds nothing
pub plus_none : (z : ℤ) → z +ℤ pos 0 ≡ z
plus_none z = ud_eq _ _ (omega (arith, ud_add z (pos 0), ud z))

pub none_plus : (z : ℤ) → pos 0 +ℤ z ≡ z
none_plus z = ud_eq _ _ (omega (arith, ud_add (pos 0) z, ud z))

-- two numbers that are equal, by their parts
pub ud_of : {a b : ℤ} → a ≡ b → (up a ≡ up b) × (dn a ≡ dn b)
ud_of e = (ap up e, ap dn e)

pub ruleset signed = (arith, lt_ud, ge_ud, le_ud, gt_ud, ≤-ud, <-ud, eq_ud, fits_ud, ud_fits, ud_abs_fits, ud_non_neg, ud_eq, ud-≤, ud-<)

-- the same, exact at the two ends of a type's range, by a split for each number
pub ruleset signed! = (arith, lt_ud, ge_ud, le_ud, gt_ud, ≤-ud, <-ud, eq_ud, fits_ud!, ud_fits!, ud_abs_fits, ud_non_neg, ud_eq, ud-≤, ud-<)

-- ---- bounds, put together as the expression is
pub within_mono : {m n : ℕ} {z : ℤ} → m ≤ n → Within m z → Within n z
within_mono l h = record { within = omega (arith, h.within) }

pub within_of : {n : ℕ} (z : ℤ) → nat_abs z ≤ n → Within n z
within_of z h = record { within = h }

pub within_pos : {m n : ℕ} → m ≤ n → Within n (pos m)
within_pos l = record { within = l }

pub within_neg : {n : ℕ} {z : ℤ} → Within n z → Within n (neg_ℤ z)
within_neg {n} {z} h = record { within = omega (arith, h.within, ud z, ud (neg_ℤ z), ud_neg z) }

pub within_add : {m n : ℕ} {a b : ℤ} → Within m a → Within n b → Within (m + n) (a +ℤ b)
within_add {m} {n} {a} {b} h k = record { within = omega (arith, h.within, k.within, ud a, ud b, ud (a +ℤ b), ud_add a b) }

pub within_sub : {m n : ℕ} {a b : ℤ} → Within m a → Within n b → Within (m + n) (a -ℤ b)
within_sub {m} {n} {a} {b} h k = record { within = omega (arith, h.within, k.within, ud a, ud b, ud (a -ℤ b), ud_minus a b) }

pub within_mul : {m n : ℕ} {a b : ℤ} → Within m a → Within n b → Within (m * n) (a *ℤ b)
within_mul {m} {n} {a} {b} h k = record { within = mul_within a b h.within k.within }

shr_go : (z : ℤ) (m : ℕ) → nat_abs (shr_z z m) ≤ nat_abs z
shr_go (pos n) m = div-le_self n m
shr_go (negsuc n) m = omega (arith, div-le_self n m)

pub within_shr : {n : ℕ} {z : ℤ} (m : ℕ) → Within n z → Within n (shr_z z m)
within_shr {n} {z} m h = record { within = omega (arith, h.within, shr_go z m) }

pub within_bool : (b : Bool) → Within 1 (pos (bool_byte b))
within_bool true = record { within = omega arith }
within_bool false = record { within = omega arith }

-- a number that fits its type is within half of the type's power
pub within_fits : (w : Width) {z : ℤ} → SFits w z → Within (2 ^ hbits w) z
within_fits w {z} f = record { within = omega (arith, fits_ud w z f, ud z) }

-- and a number within a bound below that fits: at a written-out bound the test is `tt`
pub fits_within : (w : Width) {n : ℕ} {z : ℤ} → T (ltb n (2 ^ hbits w)) → Within n z → SFits w z
fits_within w {n} {z} t h = ud_fits w z (omega (arith, ltb→lt n (2 ^ hbits w) t, h.within, ud z))

-- ---- what the machine reads back from a signed local's bits is the number: `simp back`, with a proof that each number fits in scope. After a cast to a wider type the narrower type's is enough
pub back_8_16 : {z : ℤ} → SFits w8 z → to_z w16 (of_z w16 z) ≡ z
back_8_16 f = to_z-of_z {w = w16} (sfits_widen {w = w8} {w' = w16} (tt {0}) f)

pub back_8_32 : {z : ℤ} → SFits w8 z → to_z w32 (of_z w32 z) ≡ z
back_8_32 f = to_z-of_z {w = w32} (sfits_widen {w = w8} {w' = w32} (tt {0}) f)

pub back_8_64 : {z : ℤ} → SFits w8 z → to_z w64 (of_z w64 z) ≡ z
back_8_64 f = to_z-of_z {w = w64} (sfits_widen {w = w8} {w' = w64} (tt {0}) f)

pub back_16_32 : {z : ℤ} → SFits w16 z → to_z w32 (of_z w32 z) ≡ z
back_16_32 f = to_z-of_z {w = w32} (sfits_widen {w = w16} {w' = w32} (tt {0}) f)

pub back_16_64 : {z : ℤ} → SFits w16 z → to_z w64 (of_z w64 z) ≡ z
back_16_64 f = to_z-of_z {w = w64} (sfits_widen {w = w16} {w' = w64} (tt {0}) f)

pub back_32_64 : {z : ℤ} → SFits w32 z → to_z w64 (of_z w64 z) ≡ z
back_32_64 f = to_z-of_z {w = w64} (sfits_widen {w = w32} {w' = w64} (tt {0}) f)

-- an unsigned number cast to signed, where it fits
pub back_pos : (w : Width) {n : ℕ} → SFits w (pos n) → to_z w n ≡ pos n
back_pos w f = to_z_pos w f.sfits

pub ruleset back = (to_z-of_z, back_8_16, back_8_32, back_8_64, back_16_32, back_16_64, back_32_64, to_z_bool, back_pos)

-- a cast to a wider type
pub cast_wide : (w w' : Width) (z : ℤ) → SFits w z → T (leb (hbits w) (hbits w')) → SFits w' (to_z w (of_z w z))
cast_wide w w' z f t = simp to_z-of_z (sfits_widen {w = w} {w' = w'} t f)

-- ---- a test of two signed locals, read back from their bits, is the test of the two numbers
pub lt_plain : {w : Width} {a b : ℤ} {t : Bool} → SFits w a → SFits w b → lt_z (to_z w (of_z w a)) (to_z w (of_z w b)) ≡ t → lt_z a b ≡ t
lt_plain f g e = simp to_z-of_z at e

pub le_plain : {w : Width} {a b : ℤ} {t : Bool} → SFits w a → SFits w b → le_z (to_z w (of_z w a)) (to_z w (of_z w b)) ≡ t → le_z a b ≡ t
le_plain f g e = simp to_z-of_z at e

-- a test `a == b` of two signed locals is a test of their bits
pub same_bits : {w : Width} {a b : ℤ} → SFits w a → SFits w b → of_z w a ≡ of_z w b → a ≡ b
same_bits {w} f g e = sym (to_z-of_z f) ∙ ap (to_z w) e ∙ to_z-of_z g

eq_z_refl : (a : ℤ) → eq_z a a ≡ true
eq_z_refl (pos n) = eq-eqb n n refl
eq_z_refl (negsuc n) = eq-eqb n n refl

-- a passed test of equality, as a table's rule gives it
pub eq_z→eq : (a b : ℤ) → T (eq_z a b) → a ≡ b
eq_z→eq (pos a) (pos b) t = ap pos (eqb→eq a b t)
eq_z→eq (pos a) (negsuc b) t = absurd t
eq_z→eq (negsuc a) (pos b) t = absurd t
eq_z→eq (negsuc a) (negsuc b) t = ap negsuc (eqb→eq a b t)

pub eq_z-true : (a b : ℤ) → eq_z a b ≡ true → a ≡ b
eq_z-true (pos a) (pos b) e = ap pos (eqb-true a b e)
eq_z-true (pos a) (negsuc b) e = let z : ◌≡◌ {A = ℕ} 0 1 = cc in absurd (omega arith)
eq_z-true (negsuc a) (pos b) e = let z : ◌≡◌ {A = ℕ} 0 1 = cc in absurd (omega arith)
eq_z-true (negsuc a) (negsuc b) e = ap negsuc (eqb-true a b e)

eq_go : (w : Width) (a b : ℤ) (s t : Bool) → SFits w a → SFits w b → eqb (of_z w a) (of_z w b) ≡ s → eq_z a b ≡ t → s ≡ t
eq_go w a b true true f g p q = refl
eq_go w a b false false f g p q = refl
eq_go w a b true false f g p q = let e = same_bits f g (eqb-true (of_z w a) (of_z w b) p) in sym (eq_z_refl b) ∙ ap (λ (z : ℤ). eq_z z b) (sym e) ∙ q
eq_go w a b false true f g p q = absurd (eqb-false (of_z w a) (of_z w b) p (ap (of_z w) (eq_z-true a b q)))

pub eq_plain : {w : Width} {a b : ℤ} → SFits w a → SFits w b → eqb (of_z w a) (of_z w b) ≡ eq_z a b
eq_plain {w} {a} {b} f g = eq_go w a b (eqb (of_z w a) (of_z w b)) (eq_z a b) f g refl refl

-- what a branch on `a == b` tells
pub eq_yes : {w : Width} {a b : ℤ} → SFits w a → SFits w b → of_z w a ≡ of_z w b → eq_z a b ≡ true
eq_yes {w} {a} {b} f g e = sym (eq_plain f g) ∙ eq-eqb (of_z w a) (of_z w b) e

pub eq_no : {w : Width} {a b : ℤ} → SFits w a → SFits w b → (of_z w a ≡ of_z w b → ⊥) → eq_z a b ≡ false
eq_no {w} {a} {b} f g h = sym (eq_plain f g) ∙ ne_eqb (of_z w a) (of_z w b) h

-- a test against a literal, on either side
pub lt_lit : {w : Width} {a : ℤ} (b : ℤ) {t : Bool} → SFits w a → lt_z (to_z w (of_z w a)) b ≡ t → lt_z a b ≡ t
lt_lit b f e = simp to_z-of_z at e

pub lit_lt : {w : Width} {a : ℤ} (b : ℤ) {t : Bool} → SFits w a → lt_z b (to_z w (of_z w a)) ≡ t → lt_z b a ≡ t
lit_lt b f e = simp to_z-of_z at e

pub pick_yes : (r x y : ℤ) (t : Bool) → t ≡ true → r ≡ x → r ≡ pick_z t x y
pick_yes r x y t e p = rw e p

pub pick_no : (r x y : ℤ) (t : Bool) → t ≡ false → r ≡ y → r ≡ pick_z t x y
pick_no r x y t e p = rw e p

pub ruleset picks = (rules, lt_plain, le_plain, lt_lit, lit_lt, pick_yes, pick_no, eq_plain, eq_yes, eq_no, cast_wide)

-- ---- clipping: what is clipped is between the bounds
clip_go : (lo hi v : ℤ) (s t : Bool) → lt_z v lo ≡ s → lt_z hi v ≡ t → lo ≤ℤ hi → (lo ≤ℤ pick_z s lo (pick_z t hi v)) × (pick_z s lo (pick_z t hi v) ≤ℤ hi)
clip_go lo hi v true t e f h = omega signed
clip_go lo hi v false true e f h = omega signed
clip_go lo hi v false false e f h = omega signed

pub clip_within : (lo hi v : ℤ) → lo ≤ℤ hi → (lo ≤ℤ clip_z lo hi v) × (clip_z lo hi v ≤ℤ hi)
clip_within lo hi v h = clip_go lo hi v (lt_z v lo) (lt_z hi v) refl refl h

pub clip_abs : (n : ℕ) (v : ℤ) → nat_abs (clip_z (negsuc n) (pos (suc n)) v) ≤ suc n
clip_abs n v =
    let b = clip_within (negsuc n) (pos (suc n)) v (omega signed) in
    omega (signed, ud (clip_z (negsuc n) (pos (suc n)) v))

-- ---- n with the sign of z, by the test of z
pub sign_neg : (z : ℤ) (n : ℕ) → lt_z z (pos 0) ≡ true → with_sign z n ≡ pos 0 -ℤ pos n
sign_neg (pos m) n e = absurd (omega (arith, ltb-true m 0 e))
sign_neg (negsuc m) n e = omega (signed, ud_neg (pos n), ud_minus (pos 0) (pos n))

pub sign_pos : (z : ℤ) (n : ℕ) → lt_z z (pos 0) ≡ false → with_sign z n ≡ pos n
sign_pos (pos m) n e = refl
sign_pos (negsuc m) n e = let z : ◌≡◌ {A = ℕ} 0 1 = cc in absurd (omega arith)

pub abs_neg : (n : ℕ) → nat_abs (neg_ℤ (pos n)) ≡ n
abs_neg n = omega (signed, ud (neg_ℤ (pos n)), ud_neg (pos n))

pub abs_sign : (z : ℤ) (n : ℕ) → nat_abs (with_sign z n) ≡ n
abs_sign (pos m) n = refl
abs_sign (negsuc m) n = abs_neg n

-- ---- zero minus z, as code turns a number round
pub zero_minus : (z : ℤ) → pos 0 -ℤ z ≡ neg_ℤ z
zero_minus z = omega (signed, ud_minus (pos 0) z, ud_neg z)

pub abs_zero_minus : (z : ℤ) → nat_abs (pos 0 -ℤ z) ≡ nat_abs z
abs_zero_minus z = omega (signed, ud z, ud (pos 0 -ℤ z), ud_minus (pos 0) z)

-- a test of a sign
pub le_non_neg : (z : ℤ) → le_z (pos 0) z ≡ non_neg z
le_non_neg (pos n) = le-leb 0 n (omega arith)
le_non_neg (negsuc n) = refl
