-- The laws of the search for a hint, and of the factors. Assumes nothing.
use Rattle.std.proofs.lemmas.List.{drop_more}
use Rattle.std.specs.List.{position_or_len}
use Rattle.std.proofs.Common.{min, not, lt-ltb, le-ltb, ltb-true, ltb-false, length, take, drop, ltb, ◌≡◌, refl, Bool, true, false, List, Some, None, ℕ, suc, ◌+◌, ◌-◌, ◌<◌, ◌≤◌, arith, mul-le-mul, div-le_self, ℤ, pos, negsuc, nat_abs, get_or, eq-eqb, ne_eqb, Option, IfSome, zero, cond, eqb}
use lib.Signed.{lt_z}
use Rattle.intops.specs.Choice.{pick_z}
use Rattle.intops.proofs.Signed.{signed, ud}
use Rattle.levels.specs.declared.OrderHint.{OrderHint}
use Rattle.env.specs.Hints.{hint_diff}
use Rattle.mv.specs.Projection.{reciprocal}
use Rattle.picks.specs.Hints.{no_hint}
use Rattle.entry.specs.Entry.{found, size, near_z, diff_of}

-- has a slot the hint x?
abbrev pub has_hint : OrderHint → OrderHint → Bool
has_hint x h = eqb h.0 x.0

suc_less : (q m : ℕ) (b : Bool) → ltb q m ≡ b → ltb (1 + q) (suc m) ≡ b
suc_less q m true e = lt-ltb _ _ (omega (arith, ltb-true q m e))
suc_less q m false e = le-ltb _ _ (omega (arith, ltb-false q m e))

one_go : (t : Bool) (q m l : ℕ) → cond t (Some l) (cond (ltb q m) (Some (l + 1 + q)) None) ≡ cond (ltb (cond (not t) (1 + q) 0) (suc m)) (Some (l + cond (not t) (1 + q) 0)) None
one_go true q m l = let e : l + 0 ≡ l = omega arith in rw (lt-ltb 0 (suc m) (omega arith), e)
one_go false q m l = let e : l + 1 + q ≡ l + (1 + q) = omega arith in rw (suc_less q m (ltb q m) refl, e)

-- the first of a list's hints that is x, counted from l on
pub found_first : (hs : List OrderHint) (x : OrderHint) (k l : ℕ) → l + k ≤ length hs
    → found hs x k l ≡ cond (ltb (position_or_len (has_hint x) (take k (drop l hs))) k) (Some (l + position_or_len (has_hint x) (take k (drop l hs)))) None
unfolding found
found_first hs x zero l h = refl
found_first hs x (suc k) l h =
    let i : l < length hs = omega arith in
    rw (drop_more hs l no_hint i) (rw (found_first hs x k (l + 1) (omega arith)) (one_go (eqb (get_or hs l no_hint).0 x.0) _ k l))

low_go : (t : Bool) (l n : ℕ) (o : Option ℕ) → IfSome o (λ k. k < l + 1 + n) → IfSome (cond t (Some l) o) (λ k. k < l + suc n)
low_go true l n o h = omega arith
low_go false l n None h = tt
low_go false l n (Some k) h = omega arith

-- a slot that is found is one of those
pub found_low : (hs : List OrderHint) (x : OrderHint) (n l : ℕ) → IfSome (found hs x n l) (λ k. k < l + n)
unfolding found
found_low hs x zero l = tt
found_low hs x (suc n) l = low_go (eqb (get_or hs l no_hint).0 x.0) l n (found hs x n (l + 1)) (found_low hs x n (l + 1))

pub mult_le : (n : ℕ) → reciprocal n ≤ 16384
unfolding reciprocal
mult_le n = div-le_self 16384 n

min_31 : (n : ℕ) → min n 31 ≤ 31
min_31 n = omega arith

-- a factor is 507,904 at most
pub size_le : (a b : ℤ) → size a b ≤ 507904
unfolding size
size_le a b = mul-le-mul (min_31 (nat_abs a)) (mult_le (min (nat_abs b) 31))

near_go : (d : ℤ) (s t : Bool) → lt_z d (negsuc 30) ≡ s → lt_z (pos 31) d ≡ t → nat_abs (pick_z s (pos 0) (pick_z t (pos 0) d)) ≤ 31
near_go d true t x y = omega signed
near_go d false true x y = omega signed
near_go d false false x y = omega (signed, ud d)

pub near_le : (d : ℤ) → nat_abs (near_z d) ≤ 31
near_le d = near_go d (lt_z d (negsuc 30)) (lt_z (pos 31) d) refl refl

pub diff_le : (n : ℕ) (a : OrderHint) (hs : List OrderHint) (m : ℕ) → nat_abs (diff_of n a hs m) ≤ 31
unfolding diff_of
diff_le n a hs m = near_le (hint_diff n a (get_or hs m no_hint))
