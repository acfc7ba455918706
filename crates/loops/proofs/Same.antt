-- Folds whose steps do the same within the fold's range; which numbers a loop meets. Assumes nothing.
use Rattle.std.proofs.Common.{◌≡◌, refl, ap, ◌∙◌, ℕ, zero, suc, ◌+◌, ◌-◌, ◌*◌, ◌/◌, ◌≤◌, ◌<◌, add-mul, mul-le-mul_right, div-mul-le_self, div-add-mod', mod-lt, arith}
use Rattle.loops.specs.Over.{over, span, span_by}

pub over_same : {S : Type 0} (d n p : ℕ) (f g : ℕ → S → S) → ((j : ℕ) → j < n → (s : S) → f (p + j * d) s ≡ g (p + j * d) s)
    → (s : S) → over f d n p s ≡ over g d n p s
unfolding over
over_same d zero p f g h s = refl
over_same d (suc n) p f g h s =
    ap (over f d n (p + d)) (let z : p + 0 * d ≡ p = omega arith in rw z at (h 0 (omega arith) s))
    ∙ over_same d n (p + d) f g
    (λ j l u. let z : p + (j + 1) * d ≡ p + d + j * d = omega (arith, add-mul j 1 d) in rw z at (h (j + 1) (omega arith) u)) (g p s)

-- turn j of a loop from a up to b by d is below b
pub turn_below : (d a b j : ℕ) → 0 < d → j < (b - a + (d - 1)) / d → a + j * d < b
turn_below d a b j z h =
    let m : (j + 1) * d ≤ (b - a + (d - 1)) / d * d = mul-le-mul_right d (omega arith) in
    omega (arith, m, add-mul j 1 d, div-mul-le_self (b - a + (d - 1)) d)

-- once the turns are counted, b is reached
pub turns_past : (d a b j : ℕ) → 0 < d → (b - a + (d - 1)) / d ≤ j → b ≤ a + j * d
turns_past d a b j z h = let n : ℕ = b - a + (d - 1) in omega (arith, mul-le-mul_right d h, div-add-mod' n d, mod-lt n z)

-- turns by d from p on, counted
by_index : {S : Type 0} (d n p j : ℕ) (f : ℕ → S → S) (s : S) → over f d n (p + j * d) s ≡ over (λ i. f (p + i * d)) 1 n j s
unfolding over
by_index d zero p j f s = refl
by_index d (suc n) p j f s =
    let e : p + j * d + d ≡ p + (j + 1) * d = omega (arith, add-mul j 1 d) in
    ap (λ (q : ℕ). over f d n q (f (p + j * d) s)) e ∙ by_index d n p (j + 1) f (f (p + j * d) s)

pub counted : {S : Type 0} (d a b : ℕ) (f : ℕ → S → S) (s : S) → span_by d f a b s ≡ span (λ i. f (a + i * d)) 0 ((b - a + (d - 1)) / d) s
unfolding span span_by
counted d a b f s =
    let e : a ≡ a + 0 * d = omega arith in let n : ℕ = (b - a + (d - 1)) / d in let q : n ≡ n - 0 = omega arith in
    ap (λ (p : ℕ). over f d n p s) e ∙ by_index d n a 0 f s ∙ ap (λ (m : ℕ). over (λ i. f (a + i * d)) 1 m 0 s) q
