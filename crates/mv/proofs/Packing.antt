-- The laws of packing and unpacking, and the theorems that specs/Packing.antt states. Assumes nothing.
use Rattle.std.proofs.Common.{◌≡◌, refl, sym, ap, ◌∙◌, Bool, true, false, ℕ, zero, suc, ◌+◌, ◌*◌, ◌-◌, ◌/◌, ◌^◌, ◌≤◌, ◌<◌, max, arith, div-lt_iff_lt-mul, le-div_iff_mul-le, div-mul-le_self, div-one, mul-le-mul, eqb, eqb→eq, ℤ, pos, negsuc, nat_abs, ◌≤ℤ◌, w8, SFits, pow_mono, pow_pos, pow-add, lt-ltb, le-ltb, eq-eqb, ne_eqb}
use Rattle.std.proofs.Math.Nat.{add-mul-div_right, max-eq_left}
use Rattle.std.proofs.Math.Decide.{dec_lt}
use borrow.Author.Tests.{lt-leb, eqb-false}
use Rattle.intops.specs.Choice.{with_sign}
use Rattle.intops.proofs.Signed.{signed!, ud, abs_sign, eq_z-true}
use Rattle.levels.specs.declared.QMv.{QMv}
use Rattle.intops.specs.Bits.{highest_bit, highest_from}
use Rattle.intops.proofs.Table.{below}
use Rattle.intops.proofs.Bits.{top, highest_is, pow_cancel}
use Rattle.mv.specs.Packing.{pack_code, code_at, first_with, unpack_mag, packed, is_mark_byte, unpacked, Bytes, UnpacksLeast, PacksBack, NeverMark}

-- the shift of a magnitude, and its code by it, without a case for magnitudes below 32
pub record Shift (m : ℕ) : Type 0 where
  pub b : ℕ
  pub is : highest_bit (max m 16) ≡ 4 + b
  pub small : b ≤ 6
  pub high : m < 32 * 2 ^ b
  pub full : 0 < b → 16 * 2 ^ b ≤ m
  pub code : pack_code m ≡ m / 2 ^ b + 16 * b

shift_low : (m : ℕ) → m < 32 → Shift m
unfolding pack_code highest_bit
shift_low m h =
    record { b = 0; is = highest_is 31 4 (max m 16) (omega arith) (omega arith) (omega arith); small = omega arith; high = omega arith; full = λ p. absurd (omega arith); code = rw (lt-ltb m 32 h) (omega (arith, div-one m)) }

-- the definition's code, with 16·2^b not taken off first
code_plain : (m b : ℕ) → 16 * 2 ^ b ≤ m → code_at b m ≡ m / 2 ^ b + 16 * b
code_plain m b h =
    let e : (m - 16 * 2 ^ b) + 16 * 2 ^ b ≡ m = omega arith in
    let f = add-mul-div_right (m - 16 * 2 ^ b) 16 (pow_pos b) in
    omega (arith, rw e at f)

shift_high : (m : ℕ) → 32 ≤ m → m < 2048 → Shift m
unfolding pack_code
shift_high m l h =
    let t = top m (omega arith) (omega arith) in
    let j = t.place in
    let a : 5 < suc j = pow_cancel 5 (suc j) (omega arith) in
    let u : j < 11 = pow_cancel j 11 (omega arith) in
    let p : 2 ^ j ≡ 16 * 2 ^ (j - 4) = ap (λ (n : ℕ). 2 ^ n) (omega arith) ∙ pow-add 2 4 (j - 4) in
    let i : highest_bit m - 4 ≡ j - 4 = omega arith in
    record {
      b = j - 4;
      is = rw (max-eq_left {n = m} {m = 16} (omega arith)) (omega arith);
      small = omega arith;
      high = omega arith;
      full = λ z. omega arith;
      code = rw (le-ltb m 32 l, i) (code_plain m (j - 4) (omega arith));
    }

shift_go : (m : ℕ) → m < 2048 → Dec (m < 32) → Shift m
shift_go m h (yes p) = shift_low m p
shift_go m h (no f) = shift_high m (omega arith) h

pub shift : (m : ℕ) → m < 2048 → Shift m
shift m h = shift_go m h (dec_lt m 32)

pub quot_lt : (m : ℕ) (t : Shift m) → m / 2 ^ t.b < 32
quot_lt m t = (div-lt_iff_lt-mul (pow_pos t.b)).1 t.high

pub code_lt : (m : ℕ) → m < 2048 → pack_code m < 128
code_lt m h = let t = shift m h in omega (arith, t.code, t.small, quot_lt m t)

-- ---- the least magnitude of a code, by a formula: below 32 the shift c / 16 - 1 is 0, as 0 - 1 is 0

unfoldable pub least_of : ℕ → ℕ
least_of c = (c - 16 * (c / 16 - 1)) * 2 ^ (c / 16 - 1)

pub least_lt : (c : ℕ) → c < 128 → least_of c < 2048
unfolding least_of
least_lt c h =
    let l : c - 16 * (c / 16 - 1) ≤ 31 = omega arith in
    omega (arith, mul-le-mul l (pow_mono {i = c / 16 - 1} {j = 6} (omega arith)))

-- it is at most any magnitude of the code
least_at : (m b q c : ℕ) → q < 32 → (0 < b → 16 ≤ q) → q * 2 ^ b ≤ m → c ≡ q + 16 * b → least_of c ≤ m
unfolding least_of
least_at m zero q c h f k d = let e : c / 16 - 1 ≡ 0 = omega arith in rw e (omega arith)
least_at m (suc b) q c h f k d =
    let g = f (omega arith) in
    let e : c / 16 - 1 ≡ suc b = omega arith in let i : c - 16 * suc b ≡ q = omega arith in
    rw (e, i) k

least_below : (m : ℕ) → m < 2048 → least_of (pack_code m) ≤ m
least_below m h =
    let t = shift m h in
    least_at m t.b (m / 2 ^ t.b) (pack_code m) (quot_lt m t) (λ p. (le-div_iff_mul-le (pow_pos t.b)).1 (t.full p)) (div-mul-le_self m (2 ^ t.b)) t.code

-- its code is the code: a test at each of the 128 codes, which antt computes
comes_back : ℕ → Bool
comes_back c = eqb (pack_code (least_of c)) c

least_code : (c : ℕ) → c < 128 → pack_code (least_of c) ≡ c
unfolding comes_back pack_code least_of highest_bit highest_from
least_code c h = eqb→eq (pack_code (least_of c)) c (below comes_back 128 tt c h)

-- ---- the search finds it

first_step : (c n m k : ℕ) → (suc m ≤ k → first_with c n (suc m) ≡ k) → m ≤ k → pack_code k ≡ c → ((j : ℕ) → j < k → pack_code j ≡ c → ⊥) → Dec (m < k) → first_with c (suc n) m ≡ k
unfolding first_with
first_step c n m k later l e f (yes p) = rw (ne_eqb (pack_code m) c (f m p)) (later p)
first_step c n m k later l e f (no q) = let i : m ≡ k = omega arith in rw (eq-eqb (pack_code m) c (ap pack_code i ∙ e)) i

first_is : (c n m k : ℕ) → m ≤ k → k < m + n → pack_code k ≡ c → ((j : ℕ) → j < k → pack_code j ≡ c → ⊥) → first_with c n m ≡ k
first_is c zero m k l h e f = absurd (omega arith)
first_is c (suc n) m k l h e f = first_step c n m k (λ p. first_is c n (suc m) k p (omega arith) e f) l e f (dec_lt m k)

pub unpack_is : (c : ℕ) → c < 128 → unpack_mag c ≡ least_of c
unfolding unpack_mag
unpack_is c h =
    first_is c 2048 0 (least_of c) (omega arith) (omega (arith, least_lt c h)) (least_code c h)
    (λ j l e. omega (arith, rw e at (least_below j (omega (arith, least_lt c h)))))

-- ---- whole vectors

-- a byte that is not -128 has a code's magnitude
pub not_mark : (z : ℤ) → SFits w8 z → is_mark_byte z ≡ false → nat_abs z < 128
not_mark (pos n) f e = omega signed!
not_mark (negsuc n) f e = omega (signed!, eqb-false n 127 e)

-- ---- the theorems

pub least : UnpacksLeast
least c h =
    let u = unpack_is c h in
    record {
      below = rw u (least_lt c h);
      code = rw u (least_code c h);
      least = λ m l e. rw (u, ← e) (least_below m l);
    }

byte_fits : (z : ℤ) → negsuc 127 ≤ℤ z → z ≤ℤ pos 127 → SFits w8 z
byte_fits z l h = omega (signed!, ud z)

zero_code : pack_code 0 ≡ 0
unfolding pack_code
zero_code = refl

-- a sign given twice is given once, where the magnitude between is not 0
sign_twice : (z : ℤ) (m : ℕ) → pack_code m ≡ nat_abs z → with_sign (with_sign z m) (nat_abs z) ≡ z
sign_twice (pos n) m e = refl
sign_twice (negsuc n) zero e = absurd (omega (arith, zero_code))
sign_twice (negsuc n) (suc m) e = refl

-- one component, there and back
component : (z : ℤ) → nat_abs z < 128 → let v = with_sign z (unpack_mag (nat_abs z)) in (nat_abs v < 2048) × (with_sign v (pack_code (nat_abs v)) ≡ z)
component z h =
    let l = least (nat_abs z) h in let m = unpack_mag (nat_abs z) in
    rw (abs_sign z m, l.code) (l.below, sign_twice z m l.code)

abbrev bytes : ℤ → ℤ → QMv
bytes y x = record { y = y; x = x }

pair_is : (y x : ℤ) (q : QMv) → y ≡ q.y → x ≡ q.x → bytes y x ≡ q
pair_is y x q e f = ap (λ (a : ℤ). bytes a x) e ∙ ap (bytes q.y) f

back_go : (q : QMv) (s t : Bool) → Bytes q → is_mark_byte q.y ≡ s → is_mark_byte q.x ≡ t → (unpacked q).refusal ≡ 0 → packed (unpacked q).vector ≡ q
back_go q true true b e f = rw (e, f) (λ _. pair_is (negsuc 127) (negsuc 127) q (sym (eq_z-true q.y (negsuc 127) e)) (sym (eq_z-true q.x (negsuc 127) f)))
back_go q true false b e f = rw (e, f) (λ r. let z : ◌≡◌ {A = ℕ} 0 1 = cc in absurd (omega arith))
back_go q false true b e f = rw (e, f) (λ r. let z : ◌≡◌ {A = ℕ} 0 1 = cc in absurd (omega arith))
back_go q false false b e f =
    let y = component q.y (not_mark q.y (byte_fits q.y b.y_low b.y_high) e) in
    let x = component q.x (not_mark q.x (byte_fits q.x b.x_low b.x_high) f) in
    let u = with_sign q.y (unpack_mag (nat_abs q.y)) in let v = with_sign q.x (unpack_mag (nat_abs q.x)) in
    let a : with_sign u (pack_code (nat_abs u)) ≡ q.y = y.1 in let c : with_sign v (pack_code (nat_abs v)) ≡ q.x = x.1 in
    rw (e, f) (λ _. rw (lt-leb 2048 (nat_abs u) y.0, lt-leb 2048 (nat_abs v) x.0) (pair_is (with_sign u (pack_code (nat_abs u))) (with_sign v (pack_code (nat_abs v))) q a c))

pub packs_back : PacksBack
packs_back q b = back_go q (is_mark_byte q.y) (is_mark_byte q.x) b refl refl

code_no_mark : (z : ℤ) → nat_abs z < 2048 → with_sign z (pack_code (nat_abs z)) ≡ negsuc 127 → ⊥
code_no_mark z h e = let n = pack_code (nat_abs z) in omega (arith, code_lt (nat_abs z) h, abs_sign z n, ap nat_abs e)

pub never_mark : NeverMark
never_mark v h k = rw (lt-leb 2048 (nat_abs v.y) h, lt-leb 2048 (nat_abs v.x) k) (code_no_mark v.y h, code_no_mark v.x k)
