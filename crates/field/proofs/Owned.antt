-- The passes over the field read and write the tile's own cells alone. Assumes nothing.
use Rattle.std.proofs.Common.{◌≡◌, refl, Bool, true, false, ◌&&◌, ℕ, ◌+◌, ◌-◌, ◌*◌, ◌/◌, ◌<◌, min, arith, ℤ, nat_abs}
use Rattle.std.proofs.Math.Arith.{digits_lt, digits_mod}
use Rattle.intops.proofs.Tests.{and_both}
use Rattle.levels.specs.declared.Mv.{Mv}
use Rattle.levels.specs.Vector.{empty}
use Rattle.mv.specs.declared.Sum.{Sum}
use Rattle.mv.specs.Sums.{no_sum, added}
use Rattle.store.specs.Store.{Store, field_mvs, field_refs, rd}
use Rattle.store.specs.Program.{write, each_by, read_own}
use Rattle.store.proofs.Owned.{Owned, Idle, idle_loop}
use Rattle.tile.specs.Geometry.{Geometry}
use Rattle.tile.specs.Layout.{field_at}
use Rattle.tile.specs.Owner.{own_block, owns}
use Rattle.tile.specs.Passes.{has_left, has_right, has_above, has_below}
use Rattle.tile.specs.Sound.{Sound}
use Rattle.tile.proofs.Owner.{mine_in, mine_low, own_field, own_cell}
use Rattle.tile.proofs.Passes.{Sampled, mine_sampled, mine_left, mine_right, mine_beside, mine_between, sampled, owned_samples, owned_cells}
use Rattle.field.specs.Field.{copy_above, empty_field, project_tip, tip_projection, fill_hole, fill_around, fill_holes, added_if, around, smooth_cell, smooth_block, smoothen, beside, put_gaps_proj, gap_proj, fill_gap_proj}

module _ (t : Geometry) (k : Sound t) where
  -- the rows above: a cell of the store's first three rows, before the superblock row
  pub own_above : (r x : ℕ) → r < 3 → t.offset ≡ 3 * t.stride → own_block t (x / t.block + 1) ≡ true
      → (owns t field_mvs (r * t.stride + x) ≡ true) × (owns t field_refs (r * t.stride + x) ≡ true)
  own_above r x l e h =
      let m : r * t.stride + x < 3 * t.stride = digits_lt l (mine_low t k x h) in
      own_field t k (r * t.stride + x) x (omega arith) (digits_mod r (mine_low t k x h)) h

  -- in row mode
  pub owned_copy_above : t.offset ≡ 3 * t.stride → Owned (owns t) (copy_above t)
  unfolding copy_above
  owned_copy_above e j p i q =
      let m : own_block t ((t.left + i * 1) / t.block + 1) ≡ true = mine_in t k (t.left + i * 1) (omega arith) (omega arith) in (
        (own_cell t k (t.side - 3 + (0 + j * 1)) (t.left + i * 1) m).0,
        λ v. (
          (own_cell t k (t.side - 3 + (0 + j * 1)) (t.left + i * 1) m).1,
          λ b.
              own_above (0 + j * 1) (t.left + i * 1) (omega arith) e m,
        ),
      )

  pub owned_empty_field : Owned (owns t) (empty_field t)
  unfolding empty_field
  owned_empty_field = owned_cells t k (λ y x. write field_mvs (field_at t y x) empty) (λ y x p q. (own_cell t k y x (mine_in t k x p q)).0)

  owned_project_tip : (delta : ℤ) (y x : ℕ) → own_block t (x / t.block + 1) ≡ true → Owned (owns t) (project_tip t delta y x)
  unfolding project_tip
  owned_project_tip delta y x h = ((own_cell t k y x h).0, λ v. (λ e. ((own_cell t k y x h).1, λ b. own_cell t k y x h), λ e. tt))

  pub owned_tip_projection : (delta : ℤ) → Owned (owns t) (tip_projection t delta)
  unfolding tip_projection
  owned_tip_projection delta = owned_samples t k (λ sx xend y x. project_tip t delta y x) (λ sx y x h. owned_project_tip delta y x (mine_sampled t k sx x h))

  owned_fill_hole : (delta : ℤ) (v : Mv) (y x : ℕ) → own_block t (x / t.block + 1) ≡ true → Owned (owns t) (fill_hole t delta v y x)
  unfolding fill_hole
  owned_fill_hole delta v y x h = ((own_cell t k y x h).0, λ u. (λ e. own_cell t k y x h, λ e. tt))

  owned_fill_around : (delta : ℤ) (sx y x : ℕ) → Sampled t sx x → Owned (owns t) (fill_around t delta sx (min t.right (sx + t.block)) y x)
  unfolding fill_around
  owned_fill_around delta sx y x h =
      let m : own_block t (x / t.block + 1) ≡ true = mine_sampled t k sx x h in (
        (own_cell t k y x m).0,
        λ v. (
          λ e. (
            (λ q. owned_fill_hole delta v y (x - t.step) (mine_left t k sx x h q), λ q. tt),
            (
              (λ q. owned_fill_hole delta v y (x + t.step) (mine_right t k sx x h q), λ q. tt),
              (
                (λ q. owned_fill_hole delta v (y - t.step) x m, λ q. tt),
                (λ q. owned_fill_hole delta v (y + t.step) x m, λ q. tt),
              ),
            ),
          ),
          λ e. tt,
        ),
      )

  pub owned_fill_holes : (delta : ℤ) → Owned (owns t) (fill_holes t delta)
  unfolding fill_holes
  owned_fill_holes delta = owned_samples t k (fill_around t delta) (λ sx y x h. owned_fill_around delta sx y x h)

  -- a cell that is not there is not read
  added_same : (b : Bool) (v w : Mv) (s : Sum) → (b ≡ true → v ≡ w) → added_if b v s ≡ added_if b w s
  added_same true v w s h = rw (h refl)
  added_same false v w s h = refl

  read_same : (s : Store) (y x : ℕ) → own_block t (x / t.block + 1) ≡ true → read_own (owns t) s field_mvs (field_at t y x) ≡ rd s field_mvs (field_at t y x)
  read_same s y x h = rw (own_cell t k y x h).0

  pub around_same : (s : Store) (sx y x : ℕ) → Sampled t sx x
      → around t (read_own (owns t) s field_mvs) sx (min t.right (sx + t.block)) y x ≡ around t (rd s field_mvs) sx (min t.right (sx + t.block)) y x
  unfolding around
  around_same s sx y x h =
      let m : own_block t (x / t.block + 1) ≡ true = mine_sampled t k sx x h in
      let e = min t.right (sx + t.block) in
      let a : Sum = added (rd s field_mvs (field_at t y x)) no_sum in
      let b : Sum = added_if (has_left t sx x) (rd s field_mvs (field_at t y (x - t.step))) a in
      let c : Sum = added_if (has_right t e x) (rd s field_mvs (field_at t y (x + t.step))) b in
      let d : Sum = added_if (has_above t y) (rd s field_mvs (field_at t (y - t.step) x)) c in
      rw (
        read_same s y x m,
        added_same (has_left t sx x) (read_own (owns t) s field_mvs (field_at t y (x - t.step))) (rd s field_mvs (field_at t y (x - t.step))) a (λ q. read_same s y (x - t.step) (mine_left t k sx x h q)),
        added_same (has_right t e x) (read_own (owns t) s field_mvs (field_at t y (x + t.step))) (rd s field_mvs (field_at t y (x + t.step))) b (λ q. read_same s y (x + t.step) (mine_right t k sx x h q)),
        added_same (has_above t y) (read_own (owns t) s field_mvs (field_at t (y - t.step) x)) (rd s field_mvs (field_at t (y - t.step) x)) c (λ q. read_same s (y - t.step) x m),
        added_same (has_below t y) (read_own (owns t) s field_mvs (field_at t (y + t.step) x)) (rd s field_mvs (field_at t (y + t.step) x)) d (λ q. read_same s (y + t.step) x m),
      )

  idle_cell : (delta : ℤ) (s : Store) (sx y x : ℕ) → Sampled t sx x
      → Idle (owns t) (smooth_cell t delta (read_own (owns t) s) sx (min t.right (sx + t.block)) y x) (smooth_cell t delta (rd s) sx (min t.right (sx + t.block)) y x)
  unfolding smooth_cell
  idle_cell delta s sx y x h u =
      rw (around_same s sx y x h, (own_cell t k y x (mine_sampled t k sx x h)).0, (own_cell t k y x (mine_sampled t k sx x h)).1)

  pub owned_smoothen : (delta : ℤ) → Owned (owns t) (smoothen t delta)
  unfolding smoothen smooth_block
  owned_smoothen delta j p m r s =
      idle_loop (owns t) t.step ((min t.bottom (sy + t.block) - sy + (t.step - 1)) / t.step) sy
      (λ y. each_by t.step sx end (smooth_cell t delta (read_own (owns t) s) sx end y)) (λ y. each_by t.step sx end (smooth_cell t delta (rd s) sx end y))
      (λ n l. idle_loop (owns t) t.step ((end - sx + (t.step - 1)) / t.step) sx
      (smooth_cell t delta (read_own (owns t) s) sx end (sy + n * t.step)) (smooth_cell t delta (rd s) sx end (sy + n * t.step))
      (λ i q. idle_cell delta s sx (sy + n * t.step) (sx + i * t.step) (sampled t k j i p q)))
      s
    where
      sx : ℕ
      sx = t.left + j * t.block

      end : ℕ
      end = min t.right (sx + t.block)

      sy : ℕ
      sy = t.top + m * t.block

  owned_put_gaps_proj : (sx y x : ℕ) (v : Mv) (r : ℕ) (a b c : Mv) → Sampled t sx x → t.step ≡ 2 → Owned (owns t) (put_gaps_proj t y x v r a b c)
  unfolding put_gaps_proj
  owned_put_gaps_proj sx y x v r a b c h two =
      (own_cell t k y (x + 1) (mine_between t k sx x h two), (own_cell t k (y + 1) x (mine_sampled t k sx x h), own_cell t k (y + 1) (x + 1) (mine_between t k sx x h two)))

  owned_gap_proj : (sx y x : ℕ) → Sampled t sx x → t.step ≡ 2 → Owned (owns t) (gap_proj t sx (min t.right (sx + t.block)) y x)
  unfolding gap_proj
  owned_gap_proj sx y x h two = ((own_cell t k y x m).0, λ v. (λ e. ((own_cell t k y x m).1, λ r. right v r), λ e. tt))
    where
      end : ℕ
      end = min t.right (sx + t.block)

      m : own_block t (x / t.block + 1) ≡ true
      m = mine_sampled t k sx x h

      both : (v r a b : Mv) → Owned (owns t) (beside (has_right t end x && has_below t y) (field_at t (y + 2) (x + 2)) r (λ c. put_gaps_proj t y x v (nat_abs r.y) a b c))
      both v r a b = (
        λ q.
            let n : own_block t ((x + 2) / t.block + 1) ≡ true = mine_beside t k sx x h two (and_both (has_right t end x) (has_below t y) q).0 in
            ((own_cell t k (y + 2) (x + 2) n).0, λ w. ((own_cell t k (y + 2) (x + 2) n).1, λ u. owned_put_gaps_proj sx y x _ _ _ _ _ h two)),
        λ q. owned_put_gaps_proj sx y x _ _ _ _ _ h two,
      )

      below : (v r a : Mv) → Owned (owns t) (beside (has_below t y) (field_at t (y + 2) x) r (λ b. beside (has_right t end x && has_below t y) (field_at t (y + 2) (x + 2)) r (λ c. put_gaps_proj t y x v (nat_abs r.y) a b c)))
      below v r a = (λ q. ((own_cell t k (y + 2) x m).0, λ w. ((own_cell t k (y + 2) x m).1, λ u. both v r a _)), λ q. both v r a _)

      right : (v r : Mv) → Owned (owns t) (beside (has_right t end x) (field_at t y (x + 2)) r (λ a. beside (has_below t y) (field_at t (y + 2) x) r (λ b. beside (has_right t end x && has_below t y) (field_at t (y + 2) (x + 2)) r (λ c. put_gaps_proj t y x v (nat_abs r.y) a b c))))
      right v r = (
        λ q.
            let n : own_block t ((x + 2) / t.block + 1) ≡ true = mine_beside t k sx x h two q in
            ((own_cell t k y (x + 2) n).0, λ w. ((own_cell t k y (x + 2) n).1, λ u. below v r _)),
        λ q. below v r _,
      )

  pub owned_fill_gap_proj : t.step ≡ 2 → Owned (owns t) (fill_gap_proj t)
  unfolding fill_gap_proj
  owned_fill_gap_proj two = owned_samples t k (gap_proj t) (λ sx y x h. owned_gap_proj sx y x h two)
