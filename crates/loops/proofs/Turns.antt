-- What a loop's needs ask of the folds: a turn, the end; the last row is within.
-- Assumes nothing.
use Rattle.std.proofs.Common.{◌≡◌, sym, ap, ◌∙◌, ℕ, suc, ◌+◌, ◌-◌, ◌*◌, ◌/◌, ◌<◌, ◌≤◌, arith, mul-le-mul_right, add-mul, add-one}
use Rattle.std.proofs.Math.Nat.{add-div_right, div-eq_of_lt}
use Rattle.std.proofs.Math.Decide.{dec_le}
use Rattle.std.proofs.Math.Logic.{dite}
use Rattle.loops.specs.Over.{over, span, span_by}

turns : (d b p : ℕ) → 0 < d → p < b → (b - p + (d - 1)) / d ≡ suc ((b - (p + d) + (d - 1)) / d)
turns d b p k h =
    let e : b - p + (d - 1) ≡ (b - p - 1) + d = omega arith in
    let q : (b - p + (d - 1)) / d ≡ (b - p - 1) / d + 1 = ap (λ (n : ℕ). n / d) e ∙ add-div_right (b - p - 1) k in
    let r : (b - p - 1) / d ≡ (b - (p + d) + (d - 1)) / d =
    dite (dec_le d (b - p))
    (λ (l : d ≤ b - p). let g : b - p - 1 ≡ b - (p + d) + (d - 1) = omega arith in ap (λ (n : ℕ). n / d) g)
    (λ (l : ¬ (d ≤ b - p)).
    let u : (b - p - 1) / d ≡ 0 = div-eq_of_lt (omega arith) in
    let v : (b - (p + d) + (d - 1)) / d ≡ 0 = div-eq_of_lt (omega arith) in
    u ∙ sym v) in
    q ∙ add-one _ ∙ ap suc r

module _ {S : Type 0} (f : ℕ → S → S) where
  pub span_turn : (b p : ℕ) (s : S) → p < b → span f (p + 1) b (f p s) ≡ span f p b s
  unfolding span over
  span_turn b p s h =
      let e : b - p ≡ suc (b - (p + 1)) = omega arith in
      sym (ap (λ (n : ℕ). over f 1 n p s) e)

  pub span_end : (b p : ℕ) (s : S) → b ≤ p → span f p b s ≡ s
  unfolding span over
  span_end b p s h =
      let e : b - p ≡ 0 = omega arith in
      ap (λ (n : ℕ). over f 1 n p s) e

  pub span_by_turn : (d b p : ℕ) (s : S) → 0 < d → p < b → span_by d f (p + d) b (f p s) ≡ span_by d f p b s
  unfolding span_by over
  span_by_turn d b p s k h =
      let e : (b - p + (d - 1)) / d ≡ suc ((b - (p + d) + (d - 1)) / d) = turns d b p k h in
      sym (ap (λ (n : ℕ). over f d n p s) e)

  pub span_by_end : (d b p : ℕ) (s : S) → 0 < d → b ≤ p → span_by d f p b s ≡ s
  unfolding span_by over
  span_by_end d b p s k h =
      let e : (b - p + (d - 1)) / d ≡ 0 = div-eq_of_lt (omega arith) in
      ap (λ (n : ℕ). over f d n p s) e

  -- a turn and the end as a loop's needs have them: s' is what the turn made of s, t the whole fold from where the loop began
  pub turned : (b p : ℕ) (s s' t : S) → p < b → s' ≡ f p s → span f p b s ≡ t → span f (p + 1) b s' ≡ t
  turned b p s s' t h e i = ap (span f (p + 1) b) e ∙ span_turn b p s h ∙ i

  pub ended : (b p : ℕ) (s t : S) → b ≤ p → span f p b s ≡ t → s ≡ t
  ended b p s t h i = sym (span_end b p s h) ∙ i

  pub turned_by : (d b p : ℕ) (s s' t : S) → 0 < d → p < b → s' ≡ f p s → span_by d f p b s ≡ t → span_by d f (p + d) b s' ≡ t
  turned_by d b p s s' t k h e i = ap (span_by d f (p + d) b) e ∙ span_by_turn d b p s k h ∙ i

  pub ended_by : (d b p : ℕ) (s t : S) → 0 < d → b ≤ p → span_by d f p b s ≡ t → s ≡ t
  ended_by d b p s t k h i = sym (span_by_end d b p s k h) ∙ i

-- a row below the last lies within the rows
pub row_within : (r rows stride : ℕ) → r < rows → r * stride + stride ≤ rows * stride
row_within r rows stride h =
    let m : (r + 1) * stride ≤ rows * stride = mul-le-mul_right stride (omega arith) in
    omega (arith, m, add-mul r 1 stride)

-- a cell of a row below the last lies within the rows
pub cell_within : (r rows stride c hi : ℕ) → r < rows → c < hi → hi ≤ stride → r * stride + c < rows * stride
cell_within r rows stride c hi h k l = omega (arith, row_within r rows stride h)
