-- A vector in range, and where one lands. Assumes nothing.
use Rattle.std.proofs.Common.{◌≡◌, refl, sym, ◌∙◌, ℤ, pos, if◌then◌else◌, Option, None, Some, Bool, true, false, ◌&&◌, ℕ, ◌+◌, ◌*◌, ◌/◌, ◌%◌, ◌≤◌, ◌<◌, min, arith, leb-true, ltb-true, ltb-false, leb, ltb, neg_ℤ, nat_abs}
use Rattle.std.specs.Bool.{then_some}
use lib.Signed.{lt_z}
use Rattle.intops.proofs.Tests.{and_both, or_neither}
use Rattle.levels.specs.declared.Mv.{Mv}
use Rattle.mv.specs.Projection.{past_range}
use Rattle.tile.specs.Geometry.{Geometry}
use Rattle.tile.specs.Layout.{on_step, block_start, same_rows, cells_of, there, moved}
use Rattle.tile.specs.Sound.{Sound}
use Rattle.tile.proofs.Places.{sides}
use Rattle.project.specs.Project.{lands, near_source}
use Rattle.intersect.specs.declared.Place.{Place}
use Rattle.landing.specs.Code.{Landing, slot_of, landing_of}
use Rattle.project.proofs.Owned.{landed}

-- a vector in range
pub in_range : (v : Mv) → past_range v ≡ false → (nat_abs v.y ≤ 65535) × (nat_abs v.x ≤ 65535)
unfolding past_range
in_range v h =
    let b = or_neither (ltb 65535 (nat_abs v.y)) (ltb 65535 (nat_abs v.x)) h in
    (ltb-false 65535 (nat_abs v.y) b.0, ltb-false 65535 (nat_abs v.x) b.1)

module _ (t : Geometry) (k : Sound t) where
  -- a row of the block of a row of the tile is of the superblock row
  rows_of : (y y₁ : ℕ) → t.top ≤ y → y < t.bottom → same_rows t y₁ y ≡ true → (t.top ≤ y₁) × (y₁ < t.top + t.side) × (y / t.block ≡ y₁ / t.block)
  unfolding same_rows block_start
  rows_of y y₁ p q h =
      let w = and_both (leb (y₁ / t.block * t.block) y) (ltb y (min (y₁ / t.block * t.block + t.block) t.high)) h in
      let a : y₁ / t.block * t.block ≤ y = leb-true (y₁ / t.block * t.block) y w.0 in
      let b : y < min (y₁ / t.block * t.block + t.block) t.high = ltb-true y (min (y₁ / t.block * t.block + t.block) t.high) w.1 in
      let l : y < t.top + t.side = omega (arith, k.bottom) in
      sides t k (λ B s. y₁ / B * B ≤ y → y < y₁ / B * B + B → t.top % B ≡ 0 → t.side % B ≡ 0 → (t.top ≤ y₁) × (y₁ < t.top + t.side) × (y / B ≡ y₁ / B))
      (λ a b c d. (omega arith, omega arith, omega arith)) (λ a b c d. (omega arith, omega arith, omega arith)) (λ a b c d. (omega arith, omega arith, omega arith))
      (λ a b c d. (omega arith, omega arith, omega arith)) a (omega arith) k.top_on_block k.side_on_block

  pub landing : (y x : ℕ) (w : Mv) → t.top ≤ y → y < t.bottom → x < t.wide → lands t y x w ≡ true
      → Landing t y x (on_step t (moved y (neg_ℤ (cells_of w.y)))) (on_step t (moved x (neg_ℤ (cells_of w.x))))
  unfolding lands
  landing y x w p q r h =
      let y₁ : ℕ = moved y (neg_ℤ (cells_of w.y)) in
      let x₁ : ℕ = moved x (neg_ℤ (cells_of w.x)) in
      let t1 : Bool = there y (neg_ℤ (cells_of w.y)) && ltb y₁ t.high && there x (neg_ℤ (cells_of w.x)) && leb t.left x₁ && ltb x₁ t.right in
      let e = and_both (t1 && same_rows t (on_step t y₁) y) (near_source t x (on_step t x₁)) h in
      let f = rows_of y (on_step t y₁) p q (and_both t1 (same_rows t (on_step t y₁) y) e.0).1 in
      let l = landed t k y x w h in
      record { row = q; col = r; top = f.0; bottom = f.1; rows = f.2; own = l.own_block; right = l.near.right; left = l.near.left }

-- what the answer says of the test
none_by : {A : Type 0} (b : Bool) (a : A) → then_some b a ≡ None → b ≡ false
none_by true a e = cc
none_by false a e = refl

some_by : {A : Type 0} (b : Bool) (a c : A) → then_some b a ≡ Some c → (b ≡ true) × (a ≡ c)
some_by true a c e = (refl, cc)
some_by false a c e = cc

-- what the answer says of a reference's slot
slot_by : (b : Bool) (n : ℕ) → if b then None else Some n ≡ None → b ≡ true
slot_by true n e = refl
slot_by false n e = cc

some_slot_by : (b : Bool) (n m : ℕ) → if b then None else Some n ≡ Some m → (b ≡ false) × (n ≡ m)
some_slot_by true n m e = cc
some_slot_by false n m e = (refl, cc)

module _ (z : ℤ) (o : Option ℕ) (is : o ≡ slot_of z) where
  pub no_slot : o ≡ None → lt_z z (pos 0) ≡ true
  no_slot e = slot_by (lt_z z (pos 0)) (nat_abs z) (sym is ∙ e)

  pub slot_is : (m : ℕ) → o ≡ Some m → (lt_z z (pos 0) ≡ false) × (nat_abs z ≡ m)
  slot_is m e = some_slot_by (lt_z z (pos 0)) (nat_abs z) m (sym is ∙ e)

module _ (t : Geometry) (y x : ℕ) (w : Mv) (o : Option Place) (is : o ≡ landing_of t y x w) where
  pub lands_nowhere : o ≡ None → lands t y x w ≡ false
  lands_nowhere e = none_by (lands t y x w) _ (sym is ∙ e)

  pub lands_at : (p : Place) → o ≡ Some p → (lands t y x w ≡ true) × (on_step t (moved y (neg_ℤ (cells_of w.y))) ≡ p.y) × (on_step t (moved x (neg_ℤ (cells_of w.x))) ≡ p.x)
  lands_at p e = let h = some_by (lands t y x w) _ p (sym is ∙ e) in (h.0, cc (h.1), cc (h.1))
