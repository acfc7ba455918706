-- Laws of colours, and the theorem that specs/Picture.antt states. Assumes nothing.
use Rattle.std.proofs.Common.{Bool, true, false, ◌&&◌, ◌≡◌, refl, ℕ, ◌+◌, ◌≤◌, zero-mul, arith, ltb, ℤ, pos, nat_abs, ne_eqb}
use lib.Signed.{le_z, lt_z}
use Rattle.show.specs.declared.Colour.{Colour}
use Rattle.show.specs.Picture.{length_of, part, hue_of, wheel, bright_of, dimmed, dimmed_all, colour_of, Grey, NeverGrey}

-- ---- the hue in each quarter

module _ (y x : ℤ) (m a q : ℕ) (l : m ≡ length_of y x) where
  pub hue_right : (le_z (pos 0) y && lt_z (pos 0) x) ≡ true → a ≡ nat_abs y → q ≡ part a m → q ≡ hue_of y x
  unfolding hue_of
  hue_right t e h = rw t (rw (h, e, l))

  pub hue_down : (le_z (pos 0) y && lt_z (pos 0) x) ≡ false → lt_z (pos 0) y ≡ true → a ≡ nat_abs x → q ≡ part a m → 384 + q ≡ hue_of y x
  unfolding hue_of
  hue_down t u e h = rw (t, u) (rw (h, e, l))

  pub hue_left : (le_z (pos 0) y && lt_z (pos 0) x) ≡ false → lt_z (pos 0) y ≡ false → lt_z x (pos 0) ≡ true → a ≡ nat_abs y → q ≡ part a m → 768 + q ≡ hue_of y x
  unfolding hue_of
  hue_left t u v e h = rw (t, u, v) (rw (h, e, l))

  pub hue_up : (le_z (pos 0) y && lt_z (pos 0) x) ≡ false → lt_z (pos 0) y ≡ false → lt_z x (pos 0) ≡ false → a ≡ nat_abs x → q ≡ part a m → 1152 + q ≡ hue_of y x
  unfolding hue_of
  hue_up t u v e h = rw (t, u, v) (rw (h, e, l))

-- ---- no vector's colour is grey: one channel of the wheel is full and one is 0

-- a colour that is no grey at any brightness
abbrev Pure : Colour → Type 0
Pure c = (b : ℕ) → 64 ≤ b → Grey (dimmed_all c b) → ⊥

full : (b : ℕ) → dimmed 255 b ≡ b
unfolding dimmed
full b = omega arith

none : (b : ℕ) → dimmed 0 b ≡ 0
unfolding dimmed
none b = rw zero-mul

wheel_go : (h : ℕ) (s t u v w : Bool) → ltb h 256 ≡ s → ltb h 512 ≡ t → ltb h 768 ≡ u → ltb h 1024 ≡ v → ltb h 1280 ≡ w → Pure (wheel h)
unfolding wheel
wheel_go h true t u v w e1 e2 e3 e4 e5 = rw e1 (λ b l g. omega (arith, full b, none b, g.0, g.1))
wheel_go h false true u v w e1 e2 e3 e4 e5 = rw (e1, e2) (λ b l g. omega (arith, full b, none b, g.0, g.1))
wheel_go h false false true v w e1 e2 e3 e4 e5 = rw (e1, e2, e3) (λ b l g. omega (arith, full b, none b, g.0, g.1))
wheel_go h false false false true w e1 e2 e3 e4 e5 = rw (e1, e2, e3, e4) (λ b l g. omega (arith, full b, none b, g.0, g.1))
wheel_go h false false false false true e1 e2 e3 e4 e5 = rw (e1, e2, e3, e4, e5) (λ b l g. omega (arith, full b, none b, g.0, g.1))
wheel_go h false false false false false e1 e2 e3 e4 e5 = rw (e1, e2, e3, e4, e5) (λ b l g. omega (arith, full b, none b, g.0, g.1))

bright_go : (m : ℕ) (t : Bool) → ltb m 191 ≡ t → 64 ≤ bright_of m
unfolding bright_of
bright_go m true e = rw e (omega arith)
bright_go m false e = rw e (omega arith)

pub never_grey : NeverGrey
unfolding colour_of
never_grey y x h =
    rw (ne_eqb (length_of y x) 0 (λ z. omega arith))
    (wheel_go (hue_of y x) _ _ _ _ _ refl refl refl refl refl (bright_of (length_of y x)) (bright_go (length_of y x) _ refl))
