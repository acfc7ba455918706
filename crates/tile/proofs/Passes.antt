-- Which columns the loops over a tile meet; a pass whose every cell is the tile's. Assumes nothing.
use Rattle.std.proofs.Common.{◌≡◌, subst, true, ℕ, ◌+◌, ◌-◌, ◌*◌, ◌/◌, ◌%◌, ◌≤◌, ◌<◌, min, arith, leb-true, ltb-true}
use Rattle.loops.proofs.Same.{turn_below}
use Rattle.store.specs.Program.{Prog}
use Rattle.store.proofs.Owned.{Owned}
use Rattle.tile.specs.Geometry.{Geometry}
use Rattle.tile.specs.Owner.{own_block, owns}
use Rattle.tile.specs.Passes.{each_cell, each_sample, has_left, has_right}
use Rattle.tile.specs.Sound.{Sound}
use Rattle.tile.proofs.Places.{sides, step_some}
use Rattle.tile.proofs.Owner.{mine_in}

-- a sampled column x of the block that begins at sx
pub record Sampled (t : Geometry) (sx x : ℕ) : Type 0 where
  pub left : t.left ≤ sx
  pub from : sx ≤ x
  pub to : x < min t.right (sx + t.block)
  pub on : x % t.step ≡ 0

module _ (t : Geometry) (k : Sound t) where
  pub mine_sampled : (sx x : ℕ) → Sampled t sx x → own_block t (x / t.block + 1) ≡ true
  mine_sampled sx x h = mine_in t k x (omega (arith, h.left, h.from)) (omega (arith, h.to))

  pub mine_left : (sx x : ℕ) → Sampled t sx x → has_left t sx x ≡ true → own_block t ((x - t.step) / t.block + 1) ≡ true
  mine_left sx x h q =
      let l : sx + t.step ≤ x = leb-true (sx + t.step) x q in
      mine_in t k (x - t.step) (omega (arith, h.left, h.from)) (omega (arith, h.to))

  pub mine_right : (sx x : ℕ) → Sampled t sx x → has_right t (min t.right (sx + t.block)) x ≡ true → own_block t ((x + t.step) / t.block + 1) ≡ true
  mine_right sx x h q =
      let l : x + t.step < min t.right (sx + t.block) = ltb-true (x + t.step) (min t.right (sx + t.block)) q in
      mine_in t k (x + t.step) (omega (arith, h.left, h.from)) (omega arith)

  -- with step 2
  pub mine_beside : (sx x : ℕ) → Sampled t sx x → t.step ≡ 2 → has_right t (min t.right (sx + t.block)) x ≡ true → own_block t ((x + 2) / t.block + 1) ≡ true
  mine_beside sx x h two q = subst (λ (n : ℕ). own_block t ((x + n) / t.block + 1) ≡ true) two (mine_right sx x h q)

  -- with step 2 the column between two sampled ones is of the same block
  pub mine_between : (sx x : ℕ) → Sampled t sx x → t.step ≡ 2 → own_block t ((x + 1) / t.block + 1) ≡ true
  mine_between sx x h two =
      let e : x % 2 ≡ 0 = rw two at h.on in
      let b : (x + 1) / t.block ≡ x / t.block = sides t k (λ B s. (x + 1) / B ≡ x / B) (omega arith) (omega arith) (omega arith) (omega arith) in
      rw b (mine_sampled sx x h)

  -- turn j of the blocks, turn i of a block's columns
  pub sampled : (j i : ℕ) → j < (t.right - t.left + (t.block - 1)) / t.block
      → i < (min t.right (t.left + j * t.block + t.block) - (t.left + j * t.block) + (t.step - 1)) / t.step
      → Sampled t (t.left + j * t.block) (t.left + j * t.block + i * t.step)
  sampled j i p q =
      record {
        left = omega arith;
        from = omega arith;
        to = turn_below t.step (t.left + j * t.block) (min t.right (t.left + j * t.block + t.block)) i (step_some t k) q;
        on = sides t k (λ B s. t.left % B ≡ 0 → (t.left + j * B + i * s) % s ≡ 0) (λ h. omega arith) (λ h. omega arith) (λ h. omega arith) (λ h. omega arith) k.start;
      }

  pub owned_samples : (f : ℕ → ℕ → ℕ → ℕ → Prog)
      → ((sx y x : ℕ) → Sampled t sx x → Owned (owns t) (f sx (min t.right (sx + t.block)) y x)) → Owned (owns t) (each_sample t f)
  owned_samples f h j p m r i q = h (t.left + j * t.block) (t.top + m * t.step) (t.left + j * t.block + i * t.step) (sampled j i p q)

  pub owned_cells : (f : ℕ → ℕ → Prog) → ((y x : ℕ) → t.left ≤ x → x < t.right → Owned (owns t) (f y x)) → Owned (owns t) (each_cell t f)
  owned_cells f h j p i q = h (t.top + j * 1) (t.left + i * 1) (omega arith) (omega arith)
