-- What the tests of check_traj_intersect tell of the places that pass them. Assumes nothing.
use Rattle.std.proofs.Common.{◌≡◌, Bool, true, not, ◌&&◌, ℕ, ◌+◌, ◌/◌, ◌<◌, arith, ltb-true, eqb-true, eqb, ltb}
use Rattle.intops.proofs.Tests.{and_both}
use Rattle.levels.specs.declared.Mv.{Mv}
use Rattle.tile.specs.Geometry.{Geometry}
use Rattle.tile.specs.Layout.{on_step, near_col, same_rows, cells_of, there, moved}
use Rattle.tile.specs.Sound.{Sound}
use Rattle.tile.proofs.Places.{step_le, Near, near_col_lem, near_row, near_step}
use Rattle.traj.specs.Traj.{is_no_map, ends_in, leads, in_frame}

-- (y₂, x₂) is a place of the window of (y₁, x₁)'s block
pub record Ends (t : Geometry) (y₁ x₁ y₂ x₂ : ℕ) : Type 0 where
  pub rows : Near t y₁ y₂
  pub cols : Near t x₁ x₂
  pub low : x₂ < t.wide

-- a map cell of plane j at (y, x) leads to (y₁, x₁)
pub record Leads (t : Geometry) (j y x y₁ x₁ : ℕ) : Type 0 where
  pub block : x₁ / t.block + 1 ≡ x / t.block + j
  pub rows : Near t y₁ y

module _ (t : Geometry) (k : Sound t) where
  pub ends_near : (y₁ x₁ y x : ℕ) (v : Mv) → ends_in t y₁ x₁ y x v ≡ true → Ends t y₁ x₁ (on_step t (moved y (cells_of v.y))) (on_step t (moved x (cells_of v.x)))
  unfolding ends_in
  ends_near y₁ x₁ y x v h =
      let y₂ : ℕ = moved y (cells_of v.y) in
      let x₂ : ℕ = moved x (cells_of v.x) in
      let first : Bool = there y (cells_of v.y) && there x (cells_of v.x) in
      let a = and_both (first && near_col t x₁ x₂) (same_rows t y₁ y₂) h in
      let r = near_row t k y₁ y₂ a.1 in
      let c = near_col_lem t k x₁ x₂ (and_both first (near_col t x₁ x₂) a.0).1 in
      record { rows = near_step t k y₁ y₂ r.0; cols = near_step t k x₁ x₂ c.0; low = omega (arith, step_le t k x₂, c.1) }

  pub leads_near : (m : Mv) (j y x y₀ x₀ : ℕ) → leads t m j y x y₀ x₀ ≡ true → Leads t j y x (moved y m.y) (moved x m.x)
  unfolding leads
  leads_near m j y x y₀ x₀ h =
      let y₁ : ℕ = moved y m.y in
      let x₁ : ℕ = moved x m.x in
      let found : Bool = not (is_no_map m) && there y m.y && there x m.x in
      let to : Bool = found && eqb (x₁ / t.block + 1) (x / t.block + j) in
      let near : Bool = to && near_col t x₁ x in
      let both : Bool = near && near_col t x₁ x₀ in
      let rows : Bool = both && same_rows t y₁ y in
      let a = (and_both rows (same_rows t y₁ y₀) h).0 in
      let b = and_both both (same_rows t y₁ y) a in
      let c = (and_both near (near_col t x₁ x₀) b.0).0 in
      let d = (and_both to (near_col t x₁ x) c).0 in
      record {
        block = eqb-true (x₁ / t.block + 1) (x / t.block + j) (and_both found (eqb (x₁ / t.block + 1) (x / t.block + j)) d).1;
        rows = (near_row t k y₁ y b.1).0;
      }

  -- the sampled place where a vector ends in the frame
  pub in_frame_lem : (y x : ℕ) (mv : Mv) → in_frame t y x mv ≡ true → (on_step t (moved y (cells_of mv.y)) < t.high) × (on_step t (moved x (cells_of mv.x)) < t.wide)
  unfolding in_frame
  in_frame_lem y x mv h =
      let y₁ : ℕ = moved y (cells_of mv.y) in
      let x₁ : ℕ = moved x (cells_of mv.x) in
      let first : Bool = there y (cells_of mv.y) && there x (cells_of mv.x) in
      let a = and_both (first && ltb y₁ t.high) (ltb x₁ t.wide) h in
      let r : y₁ < t.high = ltb-true y₁ t.high (and_both first (ltb y₁ t.high) a.0).1 in
      let c : x₁ < t.wide = ltb-true x₁ t.wide a.1 in
      (omega (arith, step_le t k y₁), omega (arith, step_le t k x₁))
