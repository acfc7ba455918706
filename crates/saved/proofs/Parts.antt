-- The part of a slot's plane from the tile's first row on: where it lies in the planes, and that a block read from it is the plane's. Assumes nothing.
use Rattle.std.proofs.Common.{◌≡◌, sym, ap, ◌∙◌, List, ℕ, ◌+◌, ◌-◌, ◌*◌, ◌≤◌, ◌<◌, add-mul, mul-le-mul_right, mul_assoc, arith, ℤ, pos, length, get_or, take, drop, length-drop, take_all, get_or-drop}
use Rattle.std.proofs.Math.Arith.{digits_lt}
use Rattle.levels.specs.declared.QMv.{QMv}
use Rattle.tile.specs.Geometry.{Geometry}
use Rattle.tile.specs.Sound.{Sound}
use Rattle.project.specs.Project.{saved_at, saved_ref, saved_mv}
use Rattle.saved.specs.Code.{part_at}

-- all that follows a place
pub rest : (i : ℕ) (l : List ℤ) → take (length l - i) (drop i l) ≡ drop i l
rest i l = take_all (length l - i) (drop i l) (omega (arith, length-drop i l))

module _ (t : Geometry) where
  -- the part lies in the planes
  pub rows_in : Sound t → (n : ℕ) → n < 7 → saved_at t n t.top 0 + 6 * ((t.bottom - t.top) * t.stride) ≤ 6 * (7 * (t.high * t.stride))
  unfolding saved_at
  rows_in k n p =
      let a : n * t.high ≤ 6 * t.high = mul-le-mul_right t.high (omega arith) in
      let b : n * t.high + t.top + (t.bottom - t.top) ≤ 7 * t.high = omega (arith, k.rows, k.frame_end) in
      omega (arith, mul-le-mul_right t.stride b, add-mul (n * t.high + t.top) (t.bottom - t.top) t.stride, mul_assoc 7 t.high t.stride)

  -- a block's six bytes lie in the part
  pub block_in : (y x : ℕ) → t.top ≤ y → y < t.bottom → x < t.stride → part_at t y x + 6 ≤ 6 * ((t.bottom - t.top) * t.stride)
  unfolding part_at
  block_in y x p q r =
      let a : y - t.top < t.bottom - t.top = omega arith in
      let b : (y - t.top) * t.stride + x < (t.bottom - t.top) * t.stride = digits_lt a r in
      omega arith

  module _ (planes part : List ℤ) (n y x : ℕ) (p : t.top ≤ y) (e : drop (saved_at t n t.top 0) planes ≡ part) where
    place : saved_at t n t.top 0 + part_at t y x ≡ saved_at t n y x
    unfolding saved_at part_at
    place =
        let i : n * t.high + t.top + (y - t.top) ≡ n * t.high + y = omega arith in
        let m : (n * t.high + t.top) * t.stride + (y - t.top) * t.stride ≡ (n * t.high + y) * t.stride = sym (add-mul (n * t.high + t.top) (y - t.top) t.stride) ∙ ap (λ (j : ℕ). j * t.stride) i in
        omega arith

    byte : (i j : ℕ) → saved_at t n t.top 0 + i ≡ j → get_or part i (pos 0) ≡ get_or planes j (pos 0)
    byte i j h = ap (λ (l : List ℤ). get_or l i (pos 0)) (sym e) ∙ get_or-drop (saved_at t n t.top 0) planes i (pos 0) ∙ ap (λ (m : ℕ). get_or planes m (pos 0)) h

    -- whatever is said of the block's reference and vector
    pub block_same : {A : Type 0} (f : ℤ → QMv → A) (d : ℕ) → f (saved_ref part (part_at t y x) d) (saved_mv part (part_at t y x) d) ≡ f (saved_ref planes (saved_at t n y x) d) (saved_mv planes (saved_at t n y x) d)
    block_same f d =
        rw (
          byte (part_at t y x + 4 + d) (saved_at t n y x + 4 + d) (omega (arith, place)),
          byte (part_at t y x + 2 * d) (saved_at t n y x + 2 * d) (omega (arith, place)),
          byte (part_at t y x + 2 * d + 1) (saved_at t n y x + 2 * d + 1) (omega (arith, place)),
        )
