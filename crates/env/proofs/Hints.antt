-- The laws of `hint_diff`. Assumes nothing.
use Rattle.std.proofs.Common.{◌≡◌, ℕ, ◌+◌, ◌-◌, ◌*◌, ◌/◌, ◌%◌, ◌^◌, ◌<◌, ◌≤◌, ℤ, pos, negsuc, ◌-ℤ◌, sym, ap, ◌∙◌, mod-lt, div-lt_iff_lt-mul, div-add-mod', arith, pow_pos, pow-add}
use Rattle.std.proofs.Math.Arith.{digits_mod}
use Rattle.levels.specs.declared.OrderHint.{OrderHint}
use Rattle.env.specs.Hints.{mod_z, centred, hint_diff}
use Rattle.intops.proofs.Signed.{up, dn, ud_minus}

-- the complement within k * m, modulo m, is the complement within m
comp_go : (k q m s : ℕ) → s < m → ((k + q + 1) * m - 1 - (q * m + s)) % m ≡ (m - 1) - s
comp_go k q m s h =
    let e : (k + q + 1) * m - 1 - (q * m + s) ≡ k * m + (m - 1 - s) = omega arith in
    rw e (digits_mod k (omega arith))

pub comp_mod : (k m x : ℕ) → 0 < m → x < k * m → (k * m - 1 - x) % m ≡ (m - 1) - x % m
comp_mod k m x p h =
    let q : x / m < k = (div-lt_iff_lt-mul p).1 h in
    let e : (k - 1 - x / m) + x / m + 1 ≡ k = omega arith in
    let f = div-add-mod' x m in
    let g = comp_go (k - 1 - x / m) (x / m) m (x % m) (mod-lt x p) in
    ap (λ (y : ℕ). (k * m - 1 - y) % m) (sym f) ∙ ap (λ (j : ℕ). (j * m - 1 - (x / m * m + x % m)) % m) (sym e) ∙ g

pow_256 : (n : ℕ) → n ≤ 8 → 256 ≡ 2 ^ (8 - n) * 2 ^ n
pow_256 n h = let e : 8 ≡ 8 - n + n = omega arith in ap (λ (j : ℕ). 2 ^ j) e ∙ pow-add 2 (8 - n) n

hint_go : (z : ℤ) (a b r n : ℕ) → n ≤ 8 → a < 256 → b < 256 → r < 256 → (r + b) % 256 ≡ a → up z + b ≡ dn z + a → r % 2 ^ n ≡ mod_z z (2 ^ n)
hint_go (pos d) a b r n h ha hb hr e u = ap (λ (k : ℕ). k % 2 ^ n) (omega arith)
hint_go (negsuc x) a b r n h ha hb hr e u =
    let p = pow_256 n h in
    let l : x < 2 ^ (8 - n) * 2 ^ n = omega arith in
    let f : r ≡ 2 ^ (8 - n) * 2 ^ n - 1 - x = omega arith in
    rw f (comp_mod (2 ^ (8 - n)) (2 ^ n) x (pow_pos n) l)

-- the wrapped difference r of the bytes a and b, reduced to n bits, gives the difference of the hints
pub wrapped_is : (a b : OrderHint) (r n : ℕ) → n ≤ 8 → a.0 < 256 → b.0 < 256 → r < 256 → (r + b.0) % 256 ≡ a.0 → hint_diff n a b ≡ centred (2 ^ n) (r % 2 ^ n)
unfolding hint_diff
wrapped_is a b r n h ha hb hr e =
    let d = ud_minus (pos a.0) (pos b.0) in
    ap (centred (2 ^ n)) (sym (hint_go (pos a.0 -ℤ pos b.0) a.0 b.0 r n h ha hb hr e (omega arith)))
