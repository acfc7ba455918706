-- A sampled cell's neighbours are cells of the tile. Assumes nothing.
use Rattle.std.proofs.Common.{◌≡◌, subst, true, ◌&&◌, ℕ, ◌+◌, ◌-◌, ◌%◌, ◌≤◌, ◌<◌, min, arith, leb-true, ltb-true}
use Rattle.intops.proofs.Tests.{and_both}
use Rattle.tile.specs.Geometry.{Geometry}
use Rattle.tile.specs.Layout.{block_start}
use Rattle.tile.specs.Passes.{has_left, has_right, has_above, has_below}
use Rattle.tile.specs.Sound.{Sound, InTile, Sample, Gaps}
use Rattle.tile.proofs.Owner.{mine_in}
use Rattle.tile.proofs.Passes.{Sampled, mine_between}
use Rattle.tile.proofs.Places.{sides, block_top}

-- a sampled cell's neighbours of the block are the tile's
module _ (t : Geometry) (k : Sound t) (sx xend y x : ℕ) (h : Sample t sx xend y x) where
  pub left_in : has_left t sx x ≡ true → InTile t y (x - t.step)
  left_in q =
      let l : sx + t.step ≤ x = leb-true (sx + t.step) x q in let c = h.cell in
      record { top = c.top; bottom = c.bottom; left = omega (arith, h.left); right = omega (arith, c.right) }

  pub right_in : has_right t xend x ≡ true → InTile t y (x + t.step)
  right_in q =
      let l : x + t.step < xend = ltb-true (x + t.step) xend q in let c = h.cell in
      record { top = c.top; bottom = c.bottom; left = omega (arith, c.left); right = omega (arith, h.end) }

  pub above_in : has_above t y ≡ true → InTile t (y - t.step) x
  above_in q =
      let l : block_start t y + t.step ≤ y = leb-true (block_start t y + t.step) y q in let c = h.cell in let b = block_top t k y c.top in
      record { top = omega arith; bottom = omega (arith, c.bottom); left = c.left; right = c.right }

  pub below_in : has_below t y ≡ true → InTile t (y + t.step) x
  below_in q =
      let l : y + t.step < min (block_start t y + t.block) t.bottom = ltb-true (y + t.step) (min (block_start t y + t.block) t.bottom) q in let c = h.cell in
      record { top = omega (arith, c.top); bottom = omega arith; left = c.left; right = c.right }

  -- with step 2
  module _ (two : t.step ≡ 2) where
    pub right_two : has_right t xend x ≡ true → InTile t y (x + 2)
    right_two q = subst (λ (n : ℕ). InTile t y (x + n)) two (right_in q)

    pub below_two : has_below t y ≡ true → InTile t (y + 2) x
    below_two q = subst (λ (n : ℕ). InTile t (y + n) x) two (below_in q)

    pub both_two : (has_right t xend x && has_below t y) ≡ true → InTile t (y + 2) (x + 2)
    both_two q =
        let w = and_both (has_right t xend x) (has_below t y) q in let r = right_two w.0 in let b = below_two w.1 in
        record { top = b.top; bottom = b.bottom; left = r.left; right = r.right }

    -- a cell between sampled ones: its row is not past the superblock row, its column not past the block
    even_end : y % 2 ≡ 0 → y < t.top + t.side → y + 1 < t.top + t.side
    even_end e l =
        sides t k (λ B s. t.top % B ≡ 0 → t.side % B ≡ 0 → y + 1 < t.top + t.side)
        (λ p q. omega arith) (λ p q. omega arith) (λ p q. omega arith) (λ p q. omega arith) k.top_on_block k.side_on_block

    pub gaps_of : Gaps t y x
    gaps_of =
        let c = h.cell in
        let m : Sampled t sx x = record { left = h.left; from = h.from; to = rw (← h.end) h.to; on = h.col } in
        record {
          top = c.top;
          below = even_end (rw two at h.row) (omega (arith, c.bottom, k.bottom));
          here = mine_in t k x c.left c.right;
          right = mine_between t k sx x m two;
        }
